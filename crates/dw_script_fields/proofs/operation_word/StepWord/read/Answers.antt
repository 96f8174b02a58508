use Rattle.dw_script_fields.specs.OperationWords.{step_word_of}
use Rattle.dw_script_fields.proofs.operation_word.StepWord.read.Goals as goal

pub returns : goal.returns
unfolding step_word_of
returns c = c.find_name.ensures
