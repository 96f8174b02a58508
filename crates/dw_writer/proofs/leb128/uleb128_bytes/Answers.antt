use Rattle.std.proofs.Common.{refl, arith}
use Rattle.dw_writer.proofs.Leb.{UlebPart-none, UlebPart-more, UlebPart-last}
use Rattle.dw_writer.proofs.leb128.uleb128_bytes.Goals as goal

pub groups-init : goal.groups-init
groups-init c = UlebPart-none _ c.args.val refl (omega arith)

pub groups-preserved : goal.groups-preserved
groups-preserved c = UlebPart-more c.groups.bytes c.groups.len c.args.val c.groups.rest c.groups.invariant c.groups-test.true

pub returns : goal.returns
returns c = UlebPart-last c.groups.bytes c.groups.len c.args.val c.groups.rest c.groups.invariant c.groups-test.false
