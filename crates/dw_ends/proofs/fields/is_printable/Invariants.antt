-- All bytes are printable where those so far are, and those that are left.
use Rattle.std.proofs.Common.{◌≡◌, drop, ◌&&◌}
use Rattle.dw_ends.specs.Fields.{all_printable}
use Rattle.dw_ends.proofs.fields.is_printable.Given as goal

abbrev pub invariant-loop-byte : goal.invariant-loop-byte
invariant-loop-byte l = (l.printable && all_printable (drop l.byte-index l.line)) ≡ all_printable l.line
