use Rattle.std.proofs.Common.{ℕ, List}
use Rattle.dw_base.specs.Forms.{text_at}
use Rattle.dw_read_units.proofs.LookupLaws.{stands}
use Rattle.dw_read_units.proofs.lookup.text_from.Goals as goal

pub returns-clause-ok : goal.returns-clause-ok
returns-clause-ok g c = stands (List ℕ) text_at c.args.offset (g.R.Reader.reading c.args.section.now) _ _ _ c.section_from-input.ensures c.in_ok-text.ensures.ok
