-- All bytes are digits where those so far are, and those that are left.
use Rattle.std.proofs.Common.{◌≡◌, drop, ◌&&◌}
use Rattle.std.specs.List.{list_all}
use Rattle.hex.specs.Hex.{is_hex_digit}
use Rattle.dw_ends.proofs.hex_bytes.are_hex_digits.Given as goal

abbrev pub invariant-loop-byte : goal.invariant-loop-byte
invariant-loop-byte l = (l.are_digits && list_all is_hex_digit (drop l.byte-index l.digits)) ≡ list_all is_hex_digit l.digits
