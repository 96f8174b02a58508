use Rattle.std.proofs.Common.{◌≡◌, sym, subst, ℕ, ◌<◌, ◌≤◌, List, [], length, Some, ℤ, All}
use Rattle.std.proofs.Math.Facts.{to_z-of_z}
use Rattle.dw_base.specs.Leb128.{sleb_at, sleb}
use Rattle.dw_base.proofs.Leb128Laws.{sleb-shortest}
use Rattle.dw_base.proofs.Sizes.{length-sleb_negative, length-sleb_positive}
use Rattle.dw_base.proofs.leb128.sleb128_size.Goals as goal

-- what has the length of the spelling is no longer than other bytes that are read as the number
shortest_size : (z : ℤ) (size : ℕ) → size ≡ length (sleb z) → (bytes : List ℕ) → All (λ b. b < 256) bytes → sleb_at bytes ≡ Some (z, []) → size ≤ length bytes
shortest_size z size e bytes each read = subst (λ n. n ≤ length bytes) (sym e) (sleb-shortest z bytes each read)

pub returns-then-value-lt0 : goal.returns-then-value-lt0
returns-then-value-lt0 c =
    let size = length-sleb_negative c.args.value _ c.unsigned_abs-magnitude.result c.sleb128_size_of.result (to_z-of_z c.ranges.value) c.if-value-lt0.true c.unsigned_abs-magnitude.ensures.value c.sleb128_size_of.ensures in
    record { size = size; shortest = shortest_size c.args.value _ size }

pub returns : goal.returns
returns c =
    let size = length-sleb_positive c.args.value _ c.unsigned_abs-magnitude.result c.sleb128_size_of-2.result (to_z-of_z c.ranges.value) c.if-value-lt0.false c.unsigned_abs-magnitude.ensures.value c.sleb128_size_of-2.ensures in
    record { size = size; shortest = shortest_size c.args.value _ size }
