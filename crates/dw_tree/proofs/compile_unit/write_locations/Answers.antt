use Rattle.std.proofs.Common.{true}
use Rattle.dw_writer.proofs.Outcomes.{OnOk-map, IfErr-map}
use Rattle.dw_lists.specs.Tables.{table_draft, locations_in, locations_of}
use Rattle.dw_tree.specs.Locations.{lists_fail_in}
use Rattle.dw_tree.specs.Places.{known_at}
use Rattle.dw_tree.proofs.LocationSteps.{locations_added, locations_others, locations_because}
use Rattle.dw_tree.proofs.compile_unit.write_locations.Goals as goal

pub returns-clause-ok : goal.returns-clause-ok
returns-clause-ok g c =
    let e = c.args.encoding in
    let draft = table_draft true e (known_at c.args.places.now) (locations_in c.args.locations.now) in
    OnOk-map c.write.result c.write.ensures.ok (λ p. locations_added g.W.Writer.meaning c.args.sections.now c.write.new.sections e draft c.write.ensures.others p)

pub returns-clause-err : goal.returns-clause-err
returns-clause-err g c =
    let e = c.args.encoding in
    let old = c.args.sections.now in
    let new = c.write.new.sections in
    let plain = (locations_of g.W.Writer.meaning e old).is_plain in
    let fails = lists_fail_in e (known_at c.args.places.now) c.args.locations.now c.args.has_base_address plain in
    IfErr-map c.write.result c.write.ensures.err (locations_because g.W.Writer.meaning old new e fails)

pub returns-clause-others : goal.returns-clause-others
returns-clause-others g c = locations_others g.W.Writer.meaning c.args.sections.now c.write.new.sections c.args.encoding c.write.ensures.others
