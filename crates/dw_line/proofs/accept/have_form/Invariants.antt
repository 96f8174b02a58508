use Rattle.std.proofs.Common.{◌≡◌, drop}
use Rattle.std.specs.List.{list_all}
use Rattle.dw_line.specs.Accepted.{has_form}
use Rattle.dw_line.proofs.accept.have_form.Given as goal

abbrev pub invariant-loop-name : goal.invariant-loop-name
invariant-loop-name l = list_all (has_form l.form) l.names ≡ list_all (has_form l.form) (drop l.name-index l.names)
