use Rattle.std.proofs.Common.{◌-◌, ◌+◌, ◌*◌, ◌^◌, ◌<◌, length, get_or, arith}
use Rattle.dw_link.proofs.Digits.{high_fits, low_fits, low_more}
use Rattle.dw_link.proofs.number.number_of.Goals as goal

pub overflow_mul-value : goal.overflow_mul-value
overflow_mul-value c = let h : c.high.value * 256 + 0 < 256 ^ 8 = high_fits 8 c.high.value 0 c.high.byte-index c.high.invariant.fits (omega arith) (omega arith) in omega arith

pub overflow_mul-value-in-low : goal.overflow_mul-value-in-low
overflow_mul-value-in-low c = let h : c.low.value * 256 + 0 < 256 ^ 8 = high_fits 8 c.low.value 0 (length c.args.bytes.now - c.low.index) c.low.invariant.fits (omega arith) (omega arith) in omega arith

pub overflow_add-value-in-low : goal.overflow_add-value-in-low
overflow_add-value-in-low c = let h : c.low.value * 256 + get_or c.args.bytes.now (c.low.index - 1) 0 < 256 ^ 8 = high_fits 8 c.low.value (get_or c.args.bytes.now (c.low.index - 1) 0) (length c.args.bytes.now - c.low.index) c.low.invariant.fits (omega (arith, c.type_inv.bytes (c.low.index - 1))) (omega arith) in omega arith

pub low-preserved : goal.low-preserved
low-preserved c = record {
  within = omega arith;
  is = low_more c.args.bytes.now c.low.index c.low.value (c.low.index - 1) (omega arith) (omega arith) c.low.invariant.is;
  fits = low_fits (length c.args.bytes.now) c.low.index c.low.value (c.low.index - 1) (get_or c.args.bytes.now (c.low.index - 1) 0) (omega arith) (omega arith) c.low.invariant.fits (omega (arith, c.type_inv.bytes (c.low.index - 1)));
}
