use Rattle.std.proofs.Common.{◌∙◌, sym, subst}
use Rattle.dw_base.specs.Spellable.{IsText}
use Rattle.dw_convert_lines.proofs.Texts.{zero_free, cut, uncut}
use Rattle.dw_convert_lines.proofs.text.ended.Goals as goal

pub returns-in-Some-clause-is : goal.returns-in-Some-clause-is
returns-in-Some-clause-is c = cut c.args.bytes.now c.in-Some.end (sym c.first_zero.ensures ∙ c.in-Some.is)

pub returns-in-Some-clause-text : goal.returns-in-Some-clause-text
returns-in-Some-clause-text c = subst IsText (sym (cut c.args.bytes.now c.in-Some.end (sym c.first_zero.ensures ∙ c.in-Some.is))) (zero_free c.args.bytes.now)

pub returns-in-None-clause-is : goal.returns-in-None-clause-is
returns-in-None-clause-is c = uncut c.args.bytes.now (sym c.first_zero.ensures ∙ c.in-None.is)

pub returns-in-None-clause-text : goal.returns-in-None-clause-text
returns-in-None-clause-text c = subst IsText (sym (uncut c.args.bytes.now (sym c.first_zero.ensures ∙ c.in-None.is))) (zero_free c.args.bytes.now)
