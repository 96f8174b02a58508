use Rattle.std.proofs.Common.{◌∙◌, ap, subst, [], ◌∷◌, ◌++◌, Option, Ok}
use Rattle.dw_base.specs.declared.ids.UnitEntryId.{UnitEntryId}
use Rattle.dw_entry_ids.specs.AnyUnit.{WalksAmong}
use Rattle.dw_filter.proofs.SectionSteps.{root_first, stands_first}
use Rattle.dw_filter.proofs.unit.begin.Goals as goal

pub returns : goal.returns
returns g c = λ root rest fault w.
    let reading = g.R.Reader.reading in
    let u = c.args.unit.now in
    let h = subst (λ (o : Option (UnitEntryId × UnitEntryId)). WalksAmong reading u [] (root ∷ rest) fault c.next.new.self c.next.new.entry (Ok o)) c.in-Some.is
    (c.in_ok-next.ensures.reads u [] (root ∷ rest) fault (stands_first reading u root rest fault w c.new-rows.result (c.new-rows.ensures.among w.placed))) in
    root_first reading u root rest fault w c.next.new.self c.next.new.entry c.in-Some.field-0.0.0 c.in-Some.field-0.1.0 c.push.new.self.items h
    (c.in_ok-push.ensures.items ∙ ap (λ spots. spots ++ (c.next.new.entry.offset, c.next.new.entry.tag) ∷ []) c.new-seen.ensures.items)
