use Rattle.std.proofs.Common.{◌≡◌, ◌∙◌, sym, ap, ℕ, ◌≤◌, ◌^◌, ◌+◌, ◌-◌, drop, arith}
use Rattle.dw_base.specs.Numbers.{low_first}
use Rattle.dw_convert_lines.specs.RegisterSteps.{in_64_bits}
use Rattle.dw_convert_lines.proofs.StepLaws.{narrow, wide, low_least, low_next}
use Rattle.dw_convert_lines.proofs.step.low_first.Goals as goal

pub returns-in_err-checked_mul : goal.returns-in_err-checked_mul
returns-in_err-checked_mul c =
    let bytes = c.args.bytes.now in
    let n = c.loop-end.number in
    let i = c.loop-end.end - 1 in
    let k : i + 1 ≡ c.loop-end.end = omega (arith, c.loop-end-test.true) in
    let e = low_next i bytes (omega (arith, c.loop-end-test.true, c.loop-end.invariant.within)) in
    let m : low_first (drop (i + 1) bytes) ≡ n = ap (λ (j : ℕ). low_first (drop j bytes)) k ∙ sym c.loop-end.invariant.number in
    let l = low_least i bytes in
    let w : 2 ^ 64 ≤ low_first bytes = omega (arith, e, l, m, c.in_err-checked_mul.ensures) in
    c.from_residual.ensures ∙ wide (low_first bytes) w

pub returns : goal.returns
returns c =
    let bytes = c.args.bytes.now in
    let n = c.loop-end.number in
    let z : c.loop-end.end ≡ 0 = omega (arith, c.loop-end-test.false) in
    let q : n ≡ low_first bytes = c.loop-end.invariant.number ∙ ap (λ (j : ℕ). low_first (drop j bytes)) z in
    narrow n c.loop-end.invariant.narrow ∙ ap in_64_bits q
