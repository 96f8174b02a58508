-- What a list of versions 2 to 4 without faults tells.
use Rattle.std.specs.Prelude.{◌≡◌, ℕ, suc, zero, ◌+◌, Bool, true, false, not, ◌&&◌, ◌||◌, ◌==◌, Option, Some, None, refl, IsTrue, IsFalse}
use Rattle.std.proofs.Common.{sym, ◌∙◌, ap, subst, arith}
use Rattle.std.proofs.lemmas.Bool.{ne_eqb, eq-eqb}
use Rattle.dw_base.specs.declared.error.Error.TheVariants as errors
use Rattle.dw_base.specs.declared.address.Address.TheVariants.{Constant, Symbol}
use Rattle.dw_writer.specs.Meaning.{Layout}
use Rattle.dw_lists.specs.declared.range.Range.{Range}
use Rattle.dw_lists.specs.declared.range.Range.TheVariants as built
use Rattle.dw_lists.specs.Items.{Span, Base, Pair, marker}
use Rattle.dw_lists.specs.Texts.{span_in}
use Rattle.dw_lists.specs.Tables.{IsNumbered}
use Rattle.dw_lists.specs.Causes.{IsNone, form_fails, numbers_fail, old_span_fails}
use Rattle.dw_lists.proofs.Causes.{first_none}
use Rattle.dw_lists.proofs.Spoken.{IsTold}

neither : (a b : Bool) → IsFalse (a || b) → IsTrue (not a && not b)
neither false false h = refl
neither true b h = absurd (let k : true ≡ false = h in cc)
neither false true h = absurd (let k : true ≡ false = h in cc)

further_by : (k m : ℕ) (z : Bool) → IsFalse ((k == 0) || z) → ((k == 0) ≡ (m == (m + k))) → IsTrue (not (m == (m + k)) && not z)
further_by k m z h e = neither (m == (m + k)) z (ap (λ b. b || z) (sym e) ∙ h)

same_further : (k m : ℕ) → (k == 0) ≡ (m == (m + k))
same_further zero m = sym (eq-eqb m (m + 0) (omega arith))
same_further (suc k) m = ne_eqb (suc k) 0 (λ z. omega (arith, z)) ∙ sym (ne_eqb m (m + suc k) (λ z. omega (arith, z)))

form_told : (base : Bool) (w : ℕ) (l : Layout) (r : Range) (x : Span) → IsNumbered (Some r) → IsNone (form_fails base w r) → span_in false l (Some r) ≡ Some x → IsTold false w x
form_told base w l (built.BaseAddress (Constant n)) x num h e = let k : Base n ≡ x = cc in subst (IsTold false w) k refl
form_told base w l (built.BaseAddress (Symbol s a)) x num h e = absurd num
form_told base w l (built.OffsetPair m n) x num h e = let k : Pair m n ≡ x = cc in subst (IsTold false w) k (neither (m == n) (m == marker w) (h errors.InvalidRange))
form_told base w l (built.StartEnd (Constant m) (Constant n)) x num h e = let k : Pair m n ≡ x = cc in subst (IsTold false w) k (neither (m == n) (m == marker w) (h errors.InvalidRange))
form_told base w l (built.StartEnd (Constant m) (Symbol s a)) x num h e = absurd num.1
form_told base w l (built.StartEnd (Symbol s a) b) x num h e = absurd num.0
form_told base w l (built.StartLength (Constant m) k) x num h e = let same : Pair m (m + k) ≡ x = cc in subst (IsTold false w) same (further_by k m (m == marker w) (h errors.InvalidRange) (same_further k m))
form_told base w l (built.StartLength (Symbol s a) k) x num h e = absurd num

-- the addresses of an item without faults are told apart from others
pub span_told : (base plain : Bool) (w : ℕ) (l : Layout) (r : Option Range) (x : Span) → IsNumbered r → IsNone (old_span_fails base plain w r) → span_in false l r ≡ Some x → IsTold false w x
span_told base plain w l None x num h e = absurd (let k : true ≡ false = h errors.InvalidRange in cc)
span_told base plain w l (Some r) x num h e = form_told base w l r x num (first_none (form_fails base w r) (numbers_fail plain w r) h) e
