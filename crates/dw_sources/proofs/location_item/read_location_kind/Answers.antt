use Rattle.std.proofs.Common.{arith}
use Rattle.dw_sources.proofs.LocatedLaws.{default_took}
use Rattle.dw_sources.proofs.location_item.read_location_kind.Goals as goal

pub returns-then-kind-clause-ok : goal.returns-then-kind-clause-ok
returns-then-kind-clause-ok g c = default_took c.args.size c.args.kind.0 _ (g.met.R.Reader.is_reading c.args.input.now) (omega arith)

pub returns-then-kind-clause-err : goal.returns-then-kind-clause-err
returns-then-kind-clause-err g c = tt
