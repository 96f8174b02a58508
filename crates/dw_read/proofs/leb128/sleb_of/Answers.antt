use Rattle.std.proofs.Common.{◌≡◌, ◌∙◌, sym, ap, subst, ◌-◌, ◌+◌, ◌*◌, ◌^◌, ◌<◌, ℕ, ℤ, Bool, length, get_or, drop, Some, Ok, refl, arith, nat_le}
use mir.Val.{to_z, of_z}
use mir.Syntax.{w64}
use Rattle.dw_base.specs.Leb128.{signed_groups_at}
use Rattle.dw_read.specs.Reasons.{digit, signed}
use Rattle.dw_read.proofs.Groups.{signed_groups_none, signed_last, signed_step, digit_small, signed_stays, sleb_is, sleb_end, sleb_big}
use Rattle.dw_read.proofs.leb128.sleb_of.Goals as goal

pub returns-in_default-clause-err : goal.returns-in_default-clause-err
returns-in_default-clause-err c = sleb_end c.args.bytes.now (signed_groups_none c.args.bytes.now c.in_default.ensures.none)

pub groups-init : goal.groups-init
groups-init c =
    let l : get_or c.args.bytes.now c.in-Some.last 0 < 128 = c.in-Some.ensures.last in
    let n : Bool = nat_le 64 (get_or c.args.bytes.now c.in-Some.last 0) in
    record {
      within = omega arith;
      small = (let d : digit n (get_or c.args.bytes.now c.in-Some.last 0) < 128 = digit_small n _ l in let e : c.digit_of-magnitude.result ≡ digit n (get_or c.args.bytes.now c.in-Some.last 0) = c.digit_of-magnitude.ensures in omega (arith, d, e));
      is = signed_last c.in-Some.last c.args.bytes.now n c.in-Some.ensures.within l refl
          ∙ ap (λ (m : ℕ). Some (signed n m, drop (c.in-Some.last + 1) c.args.bytes.now)) (sym c.digit_of-magnitude.ensures);
    }

pub returns-in_default-checked_mul-clause-err : goal.returns-in_default-checked_mul-clause-err
returns-in_default-checked_mul-clause-err c =
    let i : ℕ = c.groups.index - 1 in
    let w : i < c.in-Some.last = omega arith in
    let l : c.in-Some.last < length c.args.bytes.now = c.in-Some.ensures.within in
    let n : Bool = nat_le 64 (get_or c.args.bytes.now c.in-Some.last 0) in
    sleb_big i _ n c.args.bytes.now _ (omega arith) (λ k q. c.in-Some.ensures.before k (omega arith))
    (signed_step i c.groups.index c.groups.magnitude n c.args.bytes.now _ (omega arith) (omega arith) (c.in-Some.ensures.before i w) c.groups.invariant.is)
    (let q : c.groups.magnitude * 128 < 2 ^ 64 → ⊥ = c.in_default-checked_mul.ensures in omega arith)

pub groups-preserved : goal.groups-preserved
groups-preserved c =
    let i : ℕ = c.groups.index - 1 in
    let w : i < c.in-Some.last = omega arith in
    let l : c.in-Some.last < length c.args.bytes.now = c.in-Some.ensures.within in
    let n : Bool = nat_le 64 (get_or c.args.bytes.now c.in-Some.last 0) in
    let q : c.in-Some-checked_mul.more ≡ c.groups.magnitude * 128 = c.in-Some-checked_mul.ensures.1 in
    let d : digit n (get_or c.args.bytes.now i 0 - 128) ≡ c.digit_of-low.result = sym c.digit_of-low.ensures in
    record {
      within = omega arith;
      small = (let r : c.groups.magnitude * 128 < 2 ^ 64 = c.in-Some-checked_mul.ensures.0 in let b : get_or c.args.bytes.now i 0 < 256 = omega (arith, c.type_inv.bytes i) in let s : digit n (get_or c.args.bytes.now i 0 - 128) < 128 = digit_small n _ (omega arith) in omega (arith, r, q, d, s));
      is = signed_step i c.groups.index c.groups.magnitude n c.args.bytes.now _ (omega arith) (omega arith) (c.in-Some.ensures.before i w) c.groups.invariant.is
          ∙ ap (λ (m : ℕ). Some (signed n m, drop (c.in-Some.last + 1) c.args.bytes.now)) (omega arith);
    }

pub returns-then-magnitude-ge9223372036854775808-clause-err : goal.returns-then-magnitude-ge9223372036854775808-clause-err
returns-then-magnitude-ge9223372036854775808-clause-err c =
    let z : c.groups.index ≡ 0 = omega arith in
    sleb_big 0 _ _ c.args.bytes.now _ (omega arith) (λ k q. absurd (omega arith)) (subst (λ (k : ℕ). signed_groups_at (drop k c.args.bytes.now) ≡ Some (signed (nat_le 64 (get_or c.args.bytes.now c.in-Some.last 0)) c.groups.magnitude, drop (c.in-Some.last + 1) c.args.bytes.now)) z c.groups.invariant.is) (omega arith)

pub returns-clause-ok : goal.returns-clause-ok
returns-clause-ok c =
    let z : c.groups.index ≡ 0 = omega arith in
    let n : Bool = nat_le 64 (get_or c.args.bytes.now c.in-Some.last 0) in
    sleb_is n c.groups.magnitude c.args.bytes.now _ (subst (λ (k : ℕ). signed_groups_at (drop k c.args.bytes.now) ≡ Some (signed n c.groups.magnitude, drop (c.in-Some.last + 1) c.args.bytes.now)) z c.groups.invariant.is) (omega arith)
    ∙ ap (λ (v : ℤ). Ok (v, drop (c.in-Some.last + 1) c.args.bytes.now)) (sym (ap (λ (z : ℤ). to_z w64 (of_z w64 z)) c.signed_of.ensures ∙ signed_stays n c.groups.magnitude (omega arith)))

pub returns-in_default-clause-ok : goal.returns-in_default-clause-ok
returns-in_default-clause-ok c = tt

pub returns-in_default-clause-within : goal.returns-in_default-clause-within
returns-in_default-clause-within c = tt

pub returns-in_default-checked_mul-clause-ok : goal.returns-in_default-checked_mul-clause-ok
returns-in_default-checked_mul-clause-ok c = tt

pub returns-in_default-checked_mul-clause-within : goal.returns-in_default-checked_mul-clause-within
returns-in_default-checked_mul-clause-within c = tt

pub returns-then-magnitude-ge9223372036854775808-clause-ok : goal.returns-then-magnitude-ge9223372036854775808-clause-ok
returns-then-magnitude-ge9223372036854775808-clause-ok c = tt

pub returns-then-magnitude-ge9223372036854775808-clause-within : goal.returns-then-magnitude-ge9223372036854775808-clause-within
returns-then-magnitude-ge9223372036854775808-clause-within c = tt

pub returns-clause-err : goal.returns-clause-err
returns-clause-err c = tt
