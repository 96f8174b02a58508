use Rattle.std.proofs.Common.{◌∙◌, refl, ap, arith, length}
use Rattle.dw_entries.specs.Entries.{entry_at, with_attributes}
use Rattle.dw_entries.proofs.Changed.{length-with_changed}
use Rattle.dw_unit.proofs.Handles.{put_entry, handle_at}
use Rattle.dw_unit.proofs.entry_mut.EntryMut.attrs_mut.Goals as goal

pub invariant_of-self-lent : goal.invariant_of-self-lent
invariant_of-self-lent c w =
    let h = c.args.self.now in
    let es = c.unit.inside.entries.entries in
    (omega (arith, h.within, length-with_changed h.index (with_attributes w.attributes) es, ap (λ u. length u.entries) c.unit.view_is), tt)

pub returns : goal.returns
returns c =
    let h = c.args.self.now in (
      (refl, λ w. handle_at h w.attributes _ _ (put_entry _ _ _ c.unit.view_is h.index (with_attributes w.attributes) refl)),
      record {
        writes_back = tt;
        attributes = c.walk_mut.ensures.attributes ∙ ap (λ u. (entry_at u.entries h.index).attributes) c.unit.view_is;
        next = c.walk_mut.ensures.next;
      },
    )
