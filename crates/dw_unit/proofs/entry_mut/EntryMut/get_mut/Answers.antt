use Rattle.std.proofs.Common.{◌∙◌, refl, ap, arith, length}
use Rattle.dw_entries.specs.Entries.{value_of, with_attribute}
use Rattle.dw_unit.proofs.Handles.{put_entry, put_same, on_some}
use Rattle.dw_unit.proofs.entry_mut.EntryMut.get_mut.Goals as goal

pub invariant_of-self-lent : goal.invariant_of-self-lent
invariant_of-self-lent c o =
    let h = c.args.self.now in
    let f = c.value_mut.follows in
    let count = ap (λ u. length u.entries) c.unit.view_is in
    ((λ w. (omega (arith, h.within, (f.holds w).0, count), tt)), (omega (arith, h.within, count, ap (λ u. length u.entries) f.holds-at-none), tt))

pub returns : goal.returns
returns c =
    let h = c.args.self.now in
    let n = c.args.name.0 in
    let f = c.value_mut.follows in (
      (
        refl,
        (λ w. (record { same_unit = refl; index = refl }, on_some c.value_mut.result (put_entry _ _ (f.lender w) c.unit.view_is h.index (with_attribute n w)) (f.holds w).1)),
        (record { same_unit = refl; index = refl }, put_same _ _ f.lender-at-none c.unit.view_is f.holds-at-none),
      ),
      record { writes_back = tt; value = c.value_mut.ensures.value ∙ ap (λ u. value_of u.entries h.index n) c.unit.view_is },
    )
