use Rattle.std.proofs.Common.{◌≡◌, ◌∙◌, ap, subst, ◌-◌, ◌+◌, ◌*◌, ◌^◌, ◌<◌, ℕ, length, get_or, drop, Some, arith}
use Rattle.dw_base.specs.Leb128.{groups_at}
use Rattle.dw_read.proofs.Groups.{groups_none, groups_last, groups_step, uleb_is, uleb_end, uleb_big}
use Rattle.dw_read.proofs.leb128.uleb_of.Goals as goal

pub returns-in_default-clause-err : goal.returns-in_default-clause-err
returns-in_default-clause-err c = uleb_end c.args.bytes.now (groups_none c.args.bytes.now c.in_default.ensures.none)

pub groups-init : goal.groups-init
groups-init c = record {
  within = omega arith;
  small = (let l : get_or c.args.bytes.now c.in-Some.last 0 < 128 = c.in-Some.ensures.last in omega arith);
  is = groups_last c.in-Some.last c.args.bytes.now c.in-Some.ensures.within c.in-Some.ensures.last;
}

pub returns-in_default-checked_mul-clause-err : goal.returns-in_default-checked_mul-clause-err
returns-in_default-checked_mul-clause-err c =
    let i : ℕ = c.groups.index - 1 in
    let w : i < c.in-Some.last = omega arith in
    let l : c.in-Some.last < length c.args.bytes.now = c.in-Some.ensures.within in
    uleb_big i _ c.args.bytes.now _ (omega arith) (λ k q. c.in-Some.ensures.before k (omega arith))
    (groups_step i c.groups.index c.groups.value c.args.bytes.now _ (omega arith) (omega arith) (c.in-Some.ensures.before i w) c.groups.invariant.is)
    (let q : c.groups.value * 128 < 2 ^ 64 → ⊥ = c.in_default-checked_mul.ensures in omega arith)

pub groups-preserved : goal.groups-preserved
groups-preserved c =
    let i : ℕ = c.groups.index - 1 in
    let w : i < c.in-Some.last = omega arith in
    let l : c.in-Some.last < length c.args.bytes.now = c.in-Some.ensures.within in
    let q : c.in-Some-checked_mul.more ≡ c.groups.value * 128 = c.in-Some-checked_mul.ensures.1 in
    record {
      within = omega arith;
      small = (let r : c.groups.value * 128 < 2 ^ 64 = c.in-Some-checked_mul.ensures.0 in let f : get_or c.args.bytes.now i 0 < 256 = omega (arith, c.type_inv.bytes i) in omega arith);
      is = groups_step i c.groups.index c.groups.value c.args.bytes.now _ (omega arith) (omega arith) (c.in-Some.ensures.before i w) c.groups.invariant.is
          ∙ ap (λ (n : ℕ). Some (n, drop (c.in-Some.last + 1) c.args.bytes.now)) (omega arith);
    }

pub returns-clause-ok : goal.returns-clause-ok
returns-clause-ok c =
    let z : c.groups.index ≡ 0 = omega arith in
    uleb_is c.groups.value c.args.bytes.now _ (subst (λ (k : ℕ). groups_at (drop k c.args.bytes.now) ≡ Some (c.groups.value, drop (c.in-Some.last + 1) c.args.bytes.now)) z c.groups.invariant.is) c.groups.invariant.small

pub returns-in_default-clause-ok : goal.returns-in_default-clause-ok
returns-in_default-clause-ok c = tt

pub returns-in_default-clause-within : goal.returns-in_default-clause-within
returns-in_default-clause-within c = tt

pub returns-in_default-checked_mul-clause-ok : goal.returns-in_default-checked_mul-clause-ok
returns-in_default-checked_mul-clause-ok c = tt

pub returns-in_default-checked_mul-clause-within : goal.returns-in_default-checked_mul-clause-within
returns-in_default-checked_mul-clause-within c = tt

pub returns-clause-err : goal.returns-clause-err
returns-clause-err c = tt
