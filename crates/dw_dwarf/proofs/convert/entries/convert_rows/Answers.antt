use Rattle.std.proofs.Common.{◌≡◌, ◌∙◌, sym, ap, subst, ◌<◌, List, length, Option, Ok, ⊎_elim, inl, inr, refl, arith}
use Rattle.dw_base.specs.declared.ids.UnitEntryId.{UnitEntryId}
use Rattle.dw_entries.specs.Entries.{EntryValue, entry_at, filled_up}
use Rattle.dw_dwarf.specs.Placed.{unconverted}
use Rattle.dw_tree.specs.UnitValue.{UnitValue}
use Rattle.dw_sources.specs.ConvertErrors.{from_read}
use Rattle.dw_dwarf.proofs.Setting.{is_err}
use Rattle.dw_dwarf.proofs.Walking.{converted_none, converted_more, converted_past, converted_end, converted_refused, not_yet, id_in, ids_fit, one_less, parent_in, some}
use Rattle.dw_entry_ids.specs.KeptWalk.{HandsOutKept, WalksKept}
use Rattle.dw_dwarf.proofs.convert.entries.convert_rows.Goals as goal

pub rows-init : goal.rows-init
rows-init g c =
    let can = c.requires.ready in
    let one : length c.args.unit.now.entries ≡ 1 = ap (λ (es : List EntryValue). length es) can.entries in
    let rooted : 0 < c.args.unit.now.reserved = omega (arith, one, c.count.ensures.sound.arena.within) in
    converted_none c.args.kept.now g.R.Reader.reading _ _ _ c.args.read _ c.args.behind c.args.unit.now _ can c.new-rows.result c.args.unit.now (c.new-rows.ensures can.rows can.are can.behind) rooted refl refl refl

pub returns-in_err-id-clause-err : goal.returns-in_err-id-clause-err
returns-in_err-id-clause-err g c =
    let w = c.rows.invariant in
    rw (is_err _ _ c.from_residual.ensures) (inl (ap from_read (c.in_err-id.ensures.walks c.args.read.unit.now c.args.kept.now w.front w.rest w.stands)))

pub rows-smaller-in_default-id : goal.rows-smaller-in_default-id
rows-smaller-in_default-id g c =
    let reading = g.R.Reader.reading in
    let kept = c.args.kept.now in
    let w = c.rows.invariant in
    let walk = subst (λ (o : Option (Option UnitEntryId × UnitEntryId)). WalksKept reading c.args.read.unit.now kept w.front w.rest c.next.new.self c.next.new.entry (Ok o)) c.in-Some.is (c.in_ok-id.ensures.walks c.args.read.unit.now kept w.front w.rest w.stands) in
    one_less kept reading c.args.read c.rows.rows c.next.new.self w.front w.rest c.next.new.entry c.in-Some.id c.in-Some.parent.0 w.stands walk.0 (g.met.R.Reader.is_reading c.next.new.self.rows.rows.input)

pub rows-preserved-in_default-id : goal.rows-preserved-in_default-id
rows-preserved-in_default-id g c =
    let reading = g.R.Reader.reading in
    let kept = c.args.kept.now in
    let w = c.rows.invariant in
    let walk = subst (λ (o : Option (Option UnitEntryId × UnitEntryId)). WalksKept reading c.args.read.unit.now kept w.front w.rest c.next.new.self c.next.new.entry (Ok o)) c.in-Some.is (c.in_ok-id.ensures.walks c.args.read.unit.now kept w.front w.rest w.stands) in
    let hands = subst (λ (o : Option UnitEntryId). HandsOutKept reading c.args.read.unit.now kept w.front w.rest c.next.new.self c.next.new.entry o c.in-Some.parent.0) c.in_default-id.is walk.0 in
    converted_past kept reading _ _ _ c.args.read _ c.args.behind c.args.unit.now _ c.requires.ready c.rows.rows c.next.new.self c.rows.unit _ c.next.new.entry c.in-Some.parent.0 w hands

pub convert_entry-requires-clause-some : goal.convert_entry-requires-clause-some
convert_entry-requires-clause-some g c = some _ _ _ _ _ _ _ _ _ _ _ _ _ c.rows.invariant

pub convert_entry-requires-clause-id_in : goal.convert_entry-requires-clause-id_in
convert_entry-requires-clause-id_in g c =
    let reading = g.R.Reader.reading in
    let kept = c.args.kept.now in
    let w = c.rows.invariant in
    let walk = subst (λ (o : Option (Option UnitEntryId × UnitEntryId)). WalksKept reading c.args.read.unit.now kept w.front w.rest c.next.new.self c.next.new.entry (Ok o)) c.in-Some.is (c.in_ok-id.ensures.walks c.args.read.unit.now kept w.front w.rest w.stands) in
    let hands = subst (λ (o : Option UnitEntryId). HandsOutKept reading c.args.read.unit.now kept w.front w.rest c.next.new.self c.next.new.entry o c.in-Some.parent.0) c.in-Some-id.is walk.0 in
    let fit = ids_fit kept reading _ _ _ c.args.read _ c.args.behind c.args.unit.now _ c.requires.ready c.rows.rows c.next.new.self c.rows.unit _ c.next.new.entry c.in-Some-id.id c.in-Some.parent.0 w hands (omega (arith, c.reserved.type_inv, c.reserved.ensures)) in
    let own = c.id_of.ensures (omega (arith, fit.0)) in
    subst (λ n. n < c.rows.unit.reserved) (sym own) (id_in kept reading _ _ _ c.args.read _ c.args.behind c.args.unit.now _ c.requires.ready c.rows.rows c.next.new.self c.rows.unit _ c.next.new.entry c.in-Some-id.id c.in-Some.parent.0 w hands)

pub convert_entry-requires-clause-parent_in : goal.convert_entry-requires-clause-parent_in
convert_entry-requires-clause-parent_in g c =
    let reading = g.R.Reader.reading in
    let kept = c.args.kept.now in
    let w = c.rows.invariant in
    let walk = subst (λ (o : Option (Option UnitEntryId × UnitEntryId)). WalksKept reading c.args.read.unit.now kept w.front w.rest c.next.new.self c.next.new.entry (Ok o)) c.in-Some.is (c.in_ok-id.ensures.walks c.args.read.unit.now kept w.front w.rest w.stands) in
    let hands = subst (λ (o : Option UnitEntryId). HandsOutKept reading c.args.read.unit.now kept w.front w.rest c.next.new.self c.next.new.entry o c.in-Some.parent.0) c.in-Some-id.is walk.0 in
    let fit = ids_fit kept reading _ _ _ c.args.read _ c.args.behind c.args.unit.now _ c.requires.ready c.rows.rows c.next.new.self c.rows.unit _ c.next.new.entry c.in-Some-id.id c.in-Some.parent.0 w hands (omega (arith, c.reserved.type_inv, c.reserved.ensures)) in
    let up = c.id_of-in-Some.ensures (omega (arith, fit.1)) in
    subst (λ n. n < c.rows.unit.reserved) (sym up) (parent_in kept reading _ _ _ c.args.read _ c.args.behind c.args.unit.now _ c.requires.ready c.rows.rows c.next.new.self c.rows.unit _ c.next.new.entry c.in-Some-id.id c.in-Some.parent.0 w hands)

pub convert_entry-requires-clause-tagged : goal.convert_entry-requires-clause-tagged
convert_entry-requires-clause-tagged g c =
    let reading = g.R.Reader.reading in
    let kept = c.args.kept.now in
    let w = c.rows.invariant in
    let walk = subst (λ (o : Option (Option UnitEntryId × UnitEntryId)). WalksKept reading c.args.read.unit.now kept w.front w.rest c.next.new.self c.next.new.entry (Ok o)) c.in-Some.is (c.in_ok-id.ensures.walks c.args.read.unit.now kept w.front w.rest w.stands) in
    walk.1 c.requires.ready.tagged

pub convert_entry-requires-clause-not_yet : goal.convert_entry-requires-clause-not_yet
convert_entry-requires-clause-not_yet g c =
    let reading = g.R.Reader.reading in
    let kept = c.args.kept.now in
    let w = c.rows.invariant in
    let walk = subst (λ (o : Option (Option UnitEntryId × UnitEntryId)). WalksKept reading c.args.read.unit.now kept w.front w.rest c.next.new.self c.next.new.entry (Ok o)) c.in-Some.is (c.in_ok-id.ensures.walks c.args.read.unit.now kept w.front w.rest w.stands) in
    let hands = subst (λ (o : Option UnitEntryId). HandsOutKept reading c.args.read.unit.now kept w.front w.rest c.next.new.self c.next.new.entry o c.in-Some.parent.0) c.in-Some-id.is walk.0 in
    let fit = ids_fit kept reading _ _ _ c.args.read _ c.args.behind c.args.unit.now _ c.requires.ready c.rows.rows c.next.new.self c.rows.unit _ c.next.new.entry c.in-Some-id.id c.in-Some.parent.0 w hands (omega (arith, c.reserved.type_inv, c.reserved.ensures)) in
    let own = c.id_of.ensures (omega (arith, fit.0)) in
    subst (λ n. entry_at (filled_up c.rows.unit.reserved c.rows.unit.entries) n ≡ unconverted n) (sym own) (not_yet kept reading _ _ _ c.args.read _ c.args.behind c.args.unit.now _ c.requires.ready c.rows.rows c.next.new.self c.rows.unit _ c.next.new.entry c.in-Some-id.id c.in-Some.parent.0 w hands)

pub convert_entry-requires-clause-not_freed : goal.convert_entry-requires-clause-not_freed
convert_entry-requires-clause-not_freed g c = ap (λ (x : UnitValue). x.is_freed) c.rows.invariant.is ∙ c.requires.ready.kept

pub returns-in_err-convert_entry-clause-err : goal.returns-in_err-convert_entry-clause-err
returns-in_err-convert_entry-clause-err g c =
    let reading = g.R.Reader.reading in
    let kept = c.args.kept.now in
    let w = c.rows.invariant in
    let walk = subst (λ (o : Option (Option UnitEntryId × UnitEntryId)). WalksKept reading c.args.read.unit.now kept w.front w.rest c.next.new.self c.next.new.entry (Ok o)) c.in-Some.is (c.in_ok-id.ensures.walks c.args.read.unit.now kept w.front w.rest w.stands) in
    let hands = subst (λ (o : Option UnitEntryId). HandsOutKept reading c.args.read.unit.now kept w.front w.rest c.next.new.self c.next.new.entry o c.in-Some.parent.0) c.in-Some-id.is walk.0 in
    let q = is_err _ _ c.from_residual-in_err-convert_entry.ensures in
    rw q (⊎_elim (λ n. inl n) (λ r. inr (converted_refused kept reading _ _ _ c.args.read _ c.args.behind c.args.unit.now _ c.requires.ready c.rows.rows c.next.new.self c.rows.unit _ c.next.new.entry c.in-Some-id.id c.in-Some.parent.0 w hands _ r)) c.in_err-convert_entry.ensures.err)

pub rows-smaller : goal.rows-smaller
rows-smaller g c =
    let reading = g.R.Reader.reading in
    let kept = c.args.kept.now in
    let w = c.rows.invariant in
    let walk = subst (λ (o : Option (Option UnitEntryId × UnitEntryId)). WalksKept reading c.args.read.unit.now kept w.front w.rest c.next.new.self c.next.new.entry (Ok o)) c.in-Some.is (c.in_ok-id.ensures.walks c.args.read.unit.now kept w.front w.rest w.stands) in
    one_less kept reading c.args.read c.rows.rows c.next.new.self w.front w.rest c.next.new.entry c.in-Some.id c.in-Some.parent.0 w.stands walk.0 (g.met.R.Reader.is_reading c.next.new.self.rows.rows.input)

pub rows-preserved : goal.rows-preserved
rows-preserved g c =
    let reading = g.R.Reader.reading in
    let kept = c.args.kept.now in
    let w = c.rows.invariant in
    let walk = subst (λ (o : Option (Option UnitEntryId × UnitEntryId)). WalksKept reading c.args.read.unit.now kept w.front w.rest c.next.new.self c.next.new.entry (Ok o)) c.in-Some.is (c.in_ok-id.ensures.walks c.args.read.unit.now kept w.front w.rest w.stands) in
    let hands = subst (λ (o : Option UnitEntryId). HandsOutKept reading c.args.read.unit.now kept w.front w.rest c.next.new.self c.next.new.entry o c.in-Some.parent.0) c.in-Some-id.is walk.0 in
    let fit = ids_fit kept reading _ _ _ c.args.read _ c.args.behind c.args.unit.now _ c.requires.ready c.rows.rows c.next.new.self c.rows.unit _ c.next.new.entry c.in-Some-id.id c.in-Some.parent.0 w hands (omega (arith, c.reserved.type_inv, c.reserved.ensures)) in
    let own = c.id_of.ensures (omega (arith, fit.0)) in
    let up = c.id_of-in-Some.ensures (omega (arith, fit.1)) in
    let become = rw (own, up) at c.in_ok-convert_entry.ensures.ok in
    converted_more kept reading _ _ _ c.args.read _ c.args.behind c.args.unit.now _ c.requires.ready c.rows.rows c.next.new.self c.rows.unit _ c.next.new.entry c.in-Some-id.id c.in-Some.parent.0 w hands c.convert_entry.new.unit _ (become hands.row.code)

pub returns-clause-ok : goal.returns-clause-ok
returns-clause-ok g c =
    let reading = g.R.Reader.reading in
    let kept = c.args.kept.now in
    let w = c.rows.invariant in
    let walk = subst (λ (o : Option (Option UnitEntryId × UnitEntryId)). WalksKept reading c.args.read.unit.now kept w.front w.rest c.next.new.self c.next.new.entry (Ok o)) c.in_default.is (c.in_ok-id.ensures.walks c.args.read.unit.now kept w.front w.rest w.stands) in
    converted_end kept reading _ _ _ c.args.read _ c.args.behind c.args.unit.now _ c.requires.ready c.rows.rows c.next.new.self c.rows.unit _ w walk

pub returns-in_err-id-clause-ok : goal.returns-in_err-id-clause-ok
returns-in_err-id-clause-ok g c = rw (is_err _ _ c.from_residual.ensures) tt

pub returns-in_err-convert_entry-clause-ok : goal.returns-in_err-convert_entry-clause-ok
returns-in_err-convert_entry-clause-ok g c = rw (is_err _ _ c.from_residual-in_err-convert_entry.ensures) tt

pub returns-clause-err : goal.returns-clause-err
returns-clause-err g c = tt
