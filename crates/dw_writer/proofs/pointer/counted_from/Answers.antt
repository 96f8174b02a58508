use Rattle.std.specs.Prelude.{◌≡◌, ℕ, ◌+◌, ◌-◌, ◌%◌, ◌^◌, ◌<◌, ◌==◌, Bool, true, false, Option, Some, None, IsTrue, if◌then◌else◌, bit_and}
use Rattle.std.proofs.Common.{refl, sym, ◌∙◌, ap, arith}
use Rattle.std.proofs.Math.Nat.{mod-eq_of_lt}
use Rattle.std.proofs.lemmas.Bool.Decides.{nat_tests}
use Rattle.dw_base.specs.Pointers.{distance}
use Rattle.dw_writer.specs.Pointers.{counted}
use Rattle.dw_writer.proofs.PointerSteps.{application-and}
use Rattle.dw_writer.proofs.pointer.counted_from.Goals as goal

-- the test of the application, as the code does it
by_test : ℕ → ℕ → ℕ → Option ℕ
by_test a place n = if a == 0 then Some n else (if a == 16 then Some (distance place n) else None)

as_tested : (encoding place n a : ℕ) → a ≡ bit_and encoding 0x70 → counted encoding place n ≡ by_test a place n
unfolding by_test
as_tested encoding place n a e = ap (λ k. if k == 0 then Some n else (if k == 16 then Some (distance place n) else None)) (sym (e ∙ application-and encoding))

first : (a place n : ℕ) → a ≡ 0 → by_test a place n ≡ Some n
unfolding by_test
first a place n e = ap (λ k. by_test k place n) e

is_false : (b : Bool) → (IsTrue b → ⊥) → b ≡ false
is_false true h = absurd (h refl)
is_false false h = refl

not_first : (a place n : ℕ) → (a ≡ 0 → ⊥) → by_test a place n ≡ (if a == 16 then Some (distance place n) else None)
unfolding by_test
not_first a place n e =
    ap (λ b. if b then Some n else (if a == 16 then Some (distance place n) else None)) (is_false (a == 0) (λ h. e (grind (arith, nat_tests))))

second : (a place n : ℕ) → (a ≡ 0 → ⊥) → a ≡ 16 → by_test a place n ≡ Some (distance place n)
second a place n e f = not_first a place n e ∙ ap (λ k. if k == 16 then Some (distance place n) else None) f

neither : (a place n : ℕ) → (a ≡ 0 → ⊥) → (a ≡ 16 → ⊥) → by_test a place n ≡ None
neither a place n e f =
    not_first a place n e ∙ ap (λ b. if b then Some (distance place n) else None) (is_false (a == 16) (λ h. f (grind (arith, nat_tests))))

distance-small : (place n : ℕ) → place < 2 ^ 64 → distance place n ≡ (n + (2 ^ 64 - place)) % 2 ^ 64
distance-small place n h = ap (λ k. (n + (2 ^ 64 - k)) % 2 ^ 64) (mod-eq_of_lt h)

pub returns-then-application : goal.returns-then-application
returns-then-application c =
    as_tested c.args.eh_pe.0 c.args.place c.args.address _ c.application-application.ensures
    ∙ first _ c.args.place c.args.address c.if-application.true

pub returns-then-application-2 : goal.returns-then-application-2
returns-then-application-2 c =
    as_tested c.args.eh_pe.0 c.args.place c.args.address _ c.application-application.ensures
    ∙ second _ c.args.place c.args.address c.if-application.false c.if-application-2.true
    ∙ ap Some (distance-small c.args.place c.args.address (omega arith))

pub returns : goal.returns
returns c = (
  refl,
  as_tested c.args.eh_pe.0 c.args.place c.args.address _ c.application-application.ensures
      ∙ neither _ c.args.place c.args.address c.if-application.false c.if-application-2.false,
)
