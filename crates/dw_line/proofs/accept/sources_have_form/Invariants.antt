use Rattle.std.proofs.Common.{◌≡◌, drop}
use Rattle.std.specs.List.{list_all}
use Rattle.dw_line.specs.Accepted.{has_form}
use Rattle.dw_line.specs.Files.{source_of}
use Rattle.dw_line.proofs.accept.sources_have_form.Given as goal

abbrev pub invariant-loop-file : goal.invariant-loop-file
invariant-loop-file l = list_all (λ f. has_form l.form (source_of f)) l.files ≡ list_all (λ f. has_form l.form (source_of f)) (drop l.file-index l.files)
