use Rattle.std.proofs.Common.{true, false}
use Rattle.dw_lists.specs.Tables.{ranges_in}
use Rattle.dw_lists.proofs.Chosen.{ranges_sound, ranges_refused}
use Rattle.dw_lists.proofs.Versions.{five_is, not_five}
use Rattle.dw_lists.proofs.table.RangeListTable.write.Goals as goal

pub returns-then-encoding-eq5-clause-sound : goal.returns-then-encoding-eq5-clause-sound
returns-then-encoding-eq5-clause-sound g c =
    ranges_sound g.W.Writer.meaning c.args.sections.now c.args.sections.now c.args.encoding true (five_is c.args.encoding c.if-encoding-eq5.true) c.write_to.result c.args.have_base_address (ranges_in c.args.self.now) c.write_to.ensures.sound

pub returns-then-encoding-eq5-clause-err : goal.returns-then-encoding-eq5-clause-err
returns-then-encoding-eq5-clause-err g c =
    ranges_refused g.W.Writer.meaning c.args.sections.now _ c.args.encoding true (five_is c.args.encoding c.if-encoding-eq5.true) c.write_to.result c.args.have_base_address (ranges_in c.args.self.now) c.write_to.ensures.err

pub returns-else-encoding-eq5-clause-sound : goal.returns-else-encoding-eq5-clause-sound
returns-else-encoding-eq5-clause-sound g c =
    ranges_sound g.W.Writer.meaning c.args.sections.now c.args.sections.now c.args.encoding false (not_five c.args.encoding c.if-encoding-eq5.false) c.write_to-else-encoding-eq5.result c.args.have_base_address (ranges_in c.args.self.now) c.write_to-else-encoding-eq5.ensures.sound

pub returns-else-encoding-eq5-clause-err : goal.returns-else-encoding-eq5-clause-err
returns-else-encoding-eq5-clause-err g c =
    ranges_refused g.W.Writer.meaning c.args.sections.now _ c.args.encoding false (not_five c.args.encoding c.if-encoding-eq5.false) c.write_to-else-encoding-eq5.result c.args.have_base_address (ranges_in c.args.self.now) c.write_to-else-encoding-eq5.ensures.err
