use Rattle.dw_script_fields.specs.LocationWords.{location_word_of}
use Rattle.dw_script_fields.proofs.location_word.LocationWord.read.Goals as goal

pub returns : goal.returns
unfolding location_word_of
returns c = c.find_name.ensures
