-- Each digit moves what is left one place on, and of fewer than twenty each leaves room for the next.
use Rattle.std.proofs.Common.{◌≡◌, ℕ, suc, ◌^◌, ◌<◌, ◌≤◌, ◌+◌, ◌*◌, rules, arith, refl, sym}
use Rattle.std.proofs.Math.Nat.{pow-suc, pow-le-pow_right}
use Rattle.dw_ends.proofs.Places.{number_in_step}
use Rattle.dw_ends.proofs.digits.short_decimal.Goals as goal

-- a number of at most 18 digits has room for one more
roomy : (value i : ℕ) → value < 10 ^ i → i < 19 → value * 10 + 9 < 2 ^ 64
roomy value i h few =
    let positive : 0 < 10 = omega arith in
    let fewer : i ≤ 18 = omega (arith, few) in
    let most : 10 ^ i ≤ 10 ^ 18 = pow-le-pow_right positive fewer in
    let spelled : 10 ^ 18 ≡ 1000000000000000000 = refl in
    omega (arith, h, most, spelled)

-- and then has that many more
longer : (value i d : ℕ) → value < 10 ^ i → d < 10 → value * 10 + d < 10 ^ (i + 1)
longer value i d h few =
    let more : 10 ^ suc i ≡ 10 ^ i * 10 = pow-suc 10 i in
    let next : i + 1 ≡ suc i = omega arith in
    rw next (omega (arith, h, few, more))

pub overflow_mul-value : goal.overflow_mul-value
overflow_mul-value c =
    let room = roomy c.loop-byte.value c.loop-byte.byte-index c.loop-byte.invariant.1 (omega arith) in
    omega (arith, room)

pub overflow_add-value : goal.overflow_add-value
overflow_add-value c =
    let room = roomy c.loop-byte.value c.loop-byte.byte-index c.loop-byte.invariant.1 (omega arith) in
    let few : c.in_ok-digit.digit < 10 = search rules in
    let same : c.from.result ≡ c.in_ok-digit.digit = search rules in
    omega (arith, room, few, same)

pub loop-byte-preserved : goal.loop-byte-preserved
loop-byte-preserved c =
    let bs = c.args.digits.now in
    let value = c.loop-byte.value in
    let number = number_in_step 10 value bs c.loop-byte.byte-index c.in_ok-digit.digit (omega arith) c.loop-byte.invariant.0 (search rules) in
    let few : c.in_ok-digit.digit < 10 = search rules in
    let same : c.from.result ≡ c.in_ok-digit.digit = search rules in
    rw same (sym number, longer value c.loop-byte.byte-index c.in_ok-digit.digit c.loop-byte.invariant.1 few)
