use Rattle.std.proofs.Common.{◌∙◌, ◌++◌, ◌∷◌, [], sym, subst, ⊎_elim, inl, inr}
use Rattle.std.proofs.lemmas.Iterator.Adapters.{YieldsList-from_vec}
use Rattle.std.proofs.lemmas.Iterator.Consumers.{YieldsList-turn, YieldsList-end}
use Rattle.std.proofs.lemmas.List.{map-id}
use Rattle.std.proofs.lemmas.Result.{err_from_is_err_and}
use Rattle.dw_entry_ids.specs.KeptRows.{keep_of}
use Rattle.dw_entry_ids.proofs.KeptUnitSteps.{Numbered, numbered_none, numbered_more, numbered_refused, numbered_end, unit_behind}
use Rattle.dw_entry_ids.proofs.kept_units.number_kept.Goals as goal

pub units-init : goal.units-init
units-init g c =
    subst (λ xs. Numbered (keep_of c.args.kept.now) g.R.Reader.reading c.args.dwarf.now c.args.units.items [] xs c.new-ids.result) (sym c.new-numbered.ensures.items)
    (numbered_none (keep_of c.args.kept.now) g.R.Reader.reading c.args.dwarf.now c.args.units.items c.new-ids.result c.requires c.new-ids.ensures)

pub number_entries-requires : goal.number_entries-requires
number_entries-requires g c =
    let i = c.into_iter-unit-iterator.ensures.into_iter_gives in
    let road = YieldsList-from_vec c.args.units.items i.0 (i.1 ∙ c.args.units.ok.0) in
    let turn = YieldsList-turn road c.units.yielded c.units.unit-iterator c.units.yielded_by c.next.result c.next.new.self c.in-Some.unit c.in-Some.is c.next.ensures.steps in
    unit_behind (keep_of c.args.kept.now) g.R.Reader.reading c.args.dwarf.now c.args.units.items c.units.yielded c.units.numbered.items c.units.ids c.units.invariant c.in-Some.unit turn.0 turn.1

pub returns-in_err-entries-clause-err : goal.returns-in_err-entries-clause-err
returns-in_err-entries-clause-err g c =
    let i = c.into_iter-unit-iterator.ensures.into_iter_gives in
    let road = YieldsList-from_vec c.args.units.items i.0 (i.1 ∙ c.args.units.ok.0) in
    let turn = YieldsList-turn road c.units.yielded c.units.unit-iterator c.units.yielded_by c.next.result c.next.new.self c.in-Some.unit c.in-Some.is c.next.ensures.steps in
    let p = err_from_is_err_and c.from_residual.result c.from_residual.ensures.1 in
    rw (p.1, p.2) (⊎_elim inl (λ r. inr (numbered_refused (keep_of c.args.kept.now) g.R.Reader.reading c.args.dwarf.now c.args.units.items c.units.yielded c.units.numbered.items c.units.ids c.units.invariant c.in-Some.unit _ turn.0 turn.1 r)) c.in_err-entries.ensures.err)

pub units-preserved : goal.units-preserved
units-preserved g c =
    let i = c.into_iter-unit-iterator.ensures.into_iter_gives in
    let road = YieldsList-from_vec c.args.units.items i.0 (i.1 ∙ c.args.units.ok.0) in
    let turn = YieldsList-turn road c.units.yielded c.units.unit-iterator c.units.yielded_by c.next.result c.next.new.self c.in-Some.unit c.in-Some.is c.next.ensures.steps in
    subst (λ xs. Numbered (keep_of c.args.kept.now) g.R.Reader.reading c.args.dwarf.now c.args.units.items (c.units.yielded ++ c.in-Some.unit ∷ []) xs c.number_entries.new.ids) (sym c.in_ok-push.ensures.items)
    (numbered_more (keep_of c.args.kept.now) g.R.Reader.reading c.args.dwarf.now c.args.units.items c.units.yielded c.units.numbered.items c.units.ids c.units.invariant c.in-Some.unit c.new-id.result c.number_entries.new.ids c.in_ok-entries.entries
    turn.0 turn.1 (g.met.R.Reader.is_reading c.in-Some.unit.header.body) (c.new-id.ensures ∙ c.len.ensures ∙ c.units.numbered.ok.0) c.in_ok-entries.ensures.ok)

pub returns-clause-ok : goal.returns-clause-ok
returns-clause-ok g c =
    let i = c.into_iter-unit-iterator.ensures.into_iter_gives in
    let road = YieldsList-from_vec c.args.units.items i.0 (i.1 ∙ c.args.units.ok.0) in
    let end = YieldsList-end road c.units.yielded c.units.unit-iterator c.units.yielded_by c.next.result c.next.new.self c.in-None.is c.next.ensures.steps in
    numbered_end (keep_of c.args.kept.now) g.R.Reader.reading c.args.dwarf.now c.args.units.items c.units.yielded (record { units = c.units.numbered; ids = c.units.ids }) c.units.invariant (sym (map-id c.units.yielded) ∙ end.0)
