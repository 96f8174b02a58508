use Rattle.std.proofs.Common.{◌≡◌, drop}
use Rattle.dw_line.specs.Files.{first_source}
use Rattle.dw_line.proofs.file.first_source_form.Given as goal

abbrev pub invariant-loop-file : goal.invariant-loop-file
invariant-loop-file l = first_source l.files ≡ first_source (drop l.file-index l.files)
