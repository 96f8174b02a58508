-- Each digit moves what is left one place on, and a value that overflows stays past the limit.
use Rattle.std.proofs.Common.{◌≡◌, ◌∙◌, ◌^◌, ◌≤◌, ◌+◌, ◌*◌, drop, Some, rules, arith, sym}
use Rattle.dw_ends.specs.Numbers.{number_in}
use Rattle.dw_ends.proofs.Limits.{below-within}
use Rattle.dw_ends.proofs.Places.{read_on-drop_all, number_in_step, below-read_on}
use Rattle.dw_script_fields.proofs.number.wide_number_in_base.Goals as goal

pub returns-in_err-checked_mul : goal.returns-in_err-checked_mul
returns-in_err-checked_mul c =
    let bs = c.args.digits.now in
    let base = c.args.base in
    let value = c.loop-byte.value in
    let i = c.loop-byte.byte-index in
    let past : 2 ^ 128 ≤ value * base = search rules in
    let number = number_in_step base value bs i c.in_ok-digit.digit (omega arith) c.loop-byte.invariant.0 (search rules) in
    rw (c.from_residual-in_err-checked_mul.ensures, number) (sym (below-read_on (2 ^ 128) base _ (drop (i + 1) bs) (omega arith) (omega arith)))

pub returns-in_err-value : goal.returns-in_err-value
returns-in_err-value c =
    let bs = c.args.digits.now in
    let base = c.args.base in
    let value = c.loop-byte.value in
    let i = c.loop-byte.byte-index in
    let number = number_in_step base value bs i c.in_ok-digit.digit (omega arith) c.loop-byte.invariant.0 (search rules) in
    rw (c.from_residual-in_err-value.ensures, number) (sym (below-read_on (2 ^ 128) base _ (drop (i + 1) bs) (omega arith) (search rules)))

pub loop-byte-preserved : goal.loop-byte-preserved
loop-byte-preserved c =
    let bs = c.args.digits.now in
    let base = c.args.base in
    let value = c.loop-byte.value in
    let number = number_in_step base value bs c.loop-byte.byte-index c.in_ok-digit.digit (omega arith) c.loop-byte.invariant.0 (search rules) in
    let next : c.in_ok-value.value ≡ value * base + c.in_ok-digit.digit = search rules in
    (rw next (sym number), search rules)

pub returns : goal.returns
returns c =
    let bs = c.args.digits.now in
    let value = c.loop-byte.value in
    let whole = read_on-drop_all c.args.base value bs c.loop-byte.byte-index (omega arith) in
    let number : number_in c.args.base bs ≡ Some value = sym c.loop-byte.invariant.0 ∙ whole in
    rw number (sym (below-within (2 ^ 128) value c.loop-byte.invariant.1))
