use Rattle.dw_script.proofs.word.Word.read.Goals as goal

pub returns : goal.returns
returns c = c.find_name.ensures
