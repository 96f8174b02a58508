use Rattle.std.proofs.Common.{◌≡◌, drop}
use Rattle.std.specs.List.{list_any}
use Rattle.dw_line.specs.Accepted.{is_new_file}
use Rattle.dw_line.proofs.accept.some_is_new.Given as goal

abbrev pub invariant-loop-file : goal.invariant-loop-file
invariant-loop-file l = list_any is_new_file l.files ≡ list_any is_new_file (drop l.file-index l.files)
