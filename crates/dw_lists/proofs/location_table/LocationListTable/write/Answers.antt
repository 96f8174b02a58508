use Rattle.std.proofs.Common.{true, false}
use Rattle.dw_expr.specs.Places.{known_by}
use Rattle.dw_lists.specs.Tables.{locations_in}
use Rattle.dw_lists.proofs.Chosen.{locations_sound, locations_refused}
use Rattle.dw_lists.proofs.Versions.{five_is, not_five}
use Rattle.dw_lists.proofs.location_table.LocationListTable.write.Goals as goal

pub returns-then-encoding-eq5-clause-sound : goal.returns-then-encoding-eq5-clause-sound
returns-then-encoding-eq5-clause-sound g c =
    locations_sound g.W.Writer.meaning c.args.sections.now c.args.sections.now c.args.encoding true (five_is c.args.encoding c.if-encoding-eq5.true) c.write_to.result (known_by g.P.EntryPlaces.places c.args.places) c.args.have_base_address (locations_in c.args.self.now) c.write_to.ensures.sound

pub returns-then-encoding-eq5-clause-err : goal.returns-then-encoding-eq5-clause-err
returns-then-encoding-eq5-clause-err g c =
    locations_refused g.W.Writer.meaning c.args.sections.now _ c.args.encoding true (five_is c.args.encoding c.if-encoding-eq5.true) c.write_to.result (known_by g.P.EntryPlaces.places c.args.places) c.args.have_base_address (locations_in c.args.self.now) c.write_to.ensures.err

pub returns-else-encoding-eq5-clause-sound : goal.returns-else-encoding-eq5-clause-sound
returns-else-encoding-eq5-clause-sound g c =
    locations_sound g.W.Writer.meaning c.args.sections.now c.args.sections.now c.args.encoding false (not_five c.args.encoding c.if-encoding-eq5.false) c.write_to-else-encoding-eq5.result (known_by g.P.EntryPlaces.places c.args.places) c.args.have_base_address (locations_in c.args.self.now) c.write_to-else-encoding-eq5.ensures.sound

pub returns-else-encoding-eq5-clause-err : goal.returns-else-encoding-eq5-clause-err
returns-else-encoding-eq5-clause-err g c =
    locations_refused g.W.Writer.meaning c.args.sections.now _ c.args.encoding false (not_five c.args.encoding c.if-encoding-eq5.false) c.write_to-else-encoding-eq5.result (known_by g.P.EntryPlaces.places c.args.places) c.args.have_base_address (locations_in c.args.self.now) c.write_to-else-encoding-eq5.ensures.err
