use Rattle.std.proofs.Common.{ℕ, Bool, subst}
use Rattle.dw_base.specs.Numbers.{number_at, word_of}
use Rattle.dw_read.specs.Reading.{Reads}
use Rattle.dw_read_units.proofs.LookupLaws.{stands}
use Rattle.dw_read_units.proofs.lookup.word_from.Goals as goal

pub returns-clause-ok : goal.returns-clause-ok
returns-clause-ok g c = stands ℕ (number_at (g.R.Reader.reading c.args.section.now).is_big (word_of c.args.format)) c.args.offset (g.R.Reader.reading c.args.section.now) _ _ _ c.section_from-input.ensures (subst (λ (b : Bool). Reads ℕ (number_at b (word_of c.args.format)) (g.R.Reader.reading c.section_from-input.result) (g.R.Reader.reading c.read_word.new.self) c.in_ok-word.word) c.section_from-input.ensures.order c.in_ok-word.ensures.ok)
