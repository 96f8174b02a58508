use Rattle.std.proofs.Common.{◌∙◌, ap, sym}
use Rattle.dw_program.specs.Commands.{reading_named, reading_of}
use Rattle.dw_program.proofs.CommandWords.{one_word}
use Rattle.dw_program.proofs.command.Reading.of.Goals as goal

pub returns-in-len1 : goal.returns-in-len1
returns-in-len1 c =
    rw (← c.as_slice.ensures.value)
    (c.named.ensures ∙ ap reading_named c.as_str.ensures.value ∙ sym (ap reading_of (one_word c.as_slice.result.now c.word-item.result c.in-len1.len_at_least c.in-len1.len_below c.word-item.is)))
