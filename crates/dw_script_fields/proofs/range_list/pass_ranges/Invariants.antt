-- What is left of the list ends as the whole does.
use Rattle.std.proofs.Common.{◌≡◌, length}
use Rattle.dw_script_fields.specs.Items.{items_of}
use Rattle.dw_ends.specs.Pieces.{pieces_left}
use Rattle.dw_script_fields.specs.Ranges.{range_field}
use Rattle.dw_script_fields.proofs.range_list.pass_ranges.Given as goal

abbrev pub invariant-loop-fields : goal.invariant-loop-fields
invariant-loop-fields l = (items_of range_field (pieces_left l.fields)).1 ≡ (items_of range_field (pieces_left l.initial.fields)).1

abbrev pub decreases-loop-fields : goal.decreases-loop-fields
decreases-loop-fields l = length (pieces_left l.fields)
