-- The digits that are left, read on from the value so far, spell what all of them do.
use Rattle.std.proofs.Common.{◌≡◌, ◌<◌, ◌^◌, drop}
use Rattle.dw_ends.proofs.Places.{read_on}
use Rattle.dw_ends.specs.Numbers.{number_in}
use Rattle.dw_script_fields.proofs.number.wide_number_in_base.Given as goal

abbrev pub invariant-loop-byte : goal.invariant-loop-byte
invariant-loop-byte l = (read_on l.base l.value (drop l.byte-index l.digits) ≡ number_in l.base l.digits) × (l.value < 2 ^ 128)
