use Rattle.std.proofs.Common.{arith}
use Rattle.dw_lists.proofs.Spans.{uleb_short}
use Rattle.dw_lists.proofs.range.Range.new_size.Goals as goal

pub overflow_add-result-in-OffsetPair : goal.overflow_add-result-in-OffsetPair
overflow_add-result-in-OffsetPair c = omega (arith, uleb_short c.in-OffsetPair.begin, uleb_short c.in-OffsetPair.end, c.uleb128_size.ensures.size, c.uleb128_size-in-OffsetPair.ensures.size)

pub overflow_add-result-in-OffsetPair-2 : goal.overflow_add-result-in-OffsetPair-2
overflow_add-result-in-OffsetPair-2 c = omega (arith, uleb_short c.in-OffsetPair.begin, uleb_short c.in-OffsetPair.end, c.uleb128_size.ensures.size, c.uleb128_size-in-OffsetPair.ensures.size)

pub overflow_add-result-in-StartLength : goal.overflow_add-result-in-StartLength
overflow_add-result-in-StartLength c = omega (arith, uleb_short c.in-StartLength.length, c.uleb128_size-in-StartLength.ensures.size)

pub overflow_add-result-in-StartLength-2 : goal.overflow_add-result-in-StartLength-2
overflow_add-result-in-StartLength-2 c = omega (arith, uleb_short c.in-StartLength.length, c.uleb128_size-in-StartLength.ensures.size)
