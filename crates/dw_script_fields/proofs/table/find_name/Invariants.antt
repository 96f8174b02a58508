-- What the rest of the table has under the name is what the whole table has.
use Rattle.std.proofs.Common.{◌≡◌, length, bytes_eq}
use Rattle.std.specs.Map.{lookup}
use Rattle.dw_script_fields.specs.Spelled.{spelled}
use Rattle.dw_script_fields.proofs.table.find_name.Given as goal

abbrev pub invariant-loop-table : goal.invariant-loop-table
invariant-loop-table g l = lookup (bytes_eq l.name) (spelled l.table) ≡ lookup (bytes_eq l.name) (spelled l.initial.table)

abbrev pub decreases-loop-table : goal.decreases-loop-table
decreases-loop-table g l = length l.table
