use Rattle.std.proofs.Common.{◌≡◌, ◌∙◌, sym, ap, ◌≤◌, ◌^◌, ◌*◌, ◌+◌, get_or, drop, [], arith}
use Rattle.std.proofs.lemmas.List.{drop_all}
use Rattle.dw_base.specs.Numbers.{high_first}
use Rattle.dw_convert_lines.specs.RegisterSteps.{in_64_bits}
use Rattle.dw_convert_lines.proofs.StepLaws.{narrow, wide, high_least, high_next}
use Rattle.dw_convert_lines.proofs.step.high_first.Goals as goal

pub returns-in_err-checked_mul : goal.returns-in_err-checked_mul
returns-in_err-checked_mul c =
    let bytes = c.args.bytes.now in
    let n = c.loop-byte.number in
    let i = c.loop-byte.byte-index in
    let e = high_next n i bytes c.loop-byte-test.true in
    let l = high_least (n * 256 + get_or bytes i 0) (drop (i + 1) bytes) in
    let w : 2 ^ 64 ≤ high_first 0 bytes = omega (arith, c.loop-byte.invariant.number, e, l, c.in_err-checked_mul.ensures) in
    c.from_residual.ensures ∙ wide (high_first 0 bytes) w

pub returns : goal.returns
returns c =
    let bytes = c.args.bytes.now in
    let n = c.loop-byte.number in
    let e : drop c.loop-byte.byte-index bytes ≡ [] = drop_all c.loop-byte.byte-index bytes c.loop-byte-test.false in
    let q : high_first 0 bytes ≡ n = c.loop-byte.invariant.number ∙ ap (high_first n) e in
    narrow n c.loop-byte.invariant.narrow ∙ ap in_64_bits (sym q)
