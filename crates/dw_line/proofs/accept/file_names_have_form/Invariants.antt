use Rattle.std.proofs.Common.{◌≡◌, drop}
use Rattle.std.specs.List.{list_all}
use Rattle.dw_line.specs.Accepted.{has_form}
use Rattle.dw_line.proofs.accept.file_names_have_form.Given as goal

abbrev pub invariant-loop-file : goal.invariant-loop-file
invariant-loop-file l = list_all (λ f. has_form l.form f.name) l.files ≡ list_all (λ f. has_form l.form f.name) (drop l.file-index l.files)
