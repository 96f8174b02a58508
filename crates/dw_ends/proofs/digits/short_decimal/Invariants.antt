-- The digits that are left, read on from the value so far, spell what all of them do, and the value has no more digits than were read.
use Rattle.std.proofs.Common.{◌≡◌, ◌<◌, ◌^◌, drop}
use Rattle.dw_ends.proofs.Places.{read_on}
use Rattle.dw_ends.specs.Numbers.{number_in}
use Rattle.dw_ends.proofs.digits.short_decimal.Given as goal

abbrev pub invariant-loop-byte : goal.invariant-loop-byte
invariant-loop-byte l = (read_on 10 l.value (drop l.byte-index l.digits) ≡ number_in 10 l.digits) × (l.value < 10 ^ l.byte-index)
