use Rattle.dw_script_fields.specs.RangeWords.{range_word_of}
use Rattle.dw_script_fields.proofs.range_word.RangeWord.read.Goals as goal

pub returns : goal.returns
unfolding range_word_of
returns c = c.find_name.ensures
