use Rattle.std.proofs.Common.{ℕ, Bool, subst}
use Rattle.dw_read.specs.Reading.{Reads}
use Rattle.dw_read.specs.Reasons.{address_at}
use Rattle.dw_read_units.proofs.LookupLaws.{stands}
use Rattle.dw_read_units.proofs.lookup.address_from.Goals as goal

pub returns-clause-ok : goal.returns-clause-ok
returns-clause-ok g c = stands ℕ (address_at (g.R.Reader.reading c.args.section.now).is_big c.args.size) c.args.offset (g.R.Reader.reading c.args.section.now) _ _ _ c.section_from-input.ensures (subst (λ (b : Bool). Reads ℕ (address_at b c.args.size) (g.R.Reader.reading c.section_from-input.result) (g.R.Reader.reading c.read_address.new.self) c.in_ok-address.address) c.section_from-input.ensures.order c.in_ok-address.ensures.ok)
