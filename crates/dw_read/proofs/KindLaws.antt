-- Forms, by their layouts.
use Rattle.std.proofs.Common.{◌≡◌, ◌∙◌, sym, ap, ℕ, ◌<◌, Some, None, refl, arith}
use borrow.Author.Tests.{ne_eqb}
use Rattle.dw_base.specs.Forms.{Kind, kinds, kind_among, kind_of}
use Rattle.dw_base.specs.declared.common.Encoding.{Encoding}

pub kind_is : (e : Encoding) (form n : ℕ) (k : Kind) → form ≡ n → kind_among n (kinds e) ≡ Some k → Some k ≡ kind_of e form
unfolding kind_of
kind_is e form n k h q = sym (ap (λ (f : ℕ). kind_among f (kinds e)) h ∙ q)

-- a code that is none of the standard's
abbrev pub IsNoForm : ℕ → Type 0
IsNoForm form = 0 < form → (form ≡ 2 → ⊥) → form < 45 → ⊥

apart : (form k : ℕ) → IsNoForm form → 0 < k → (k ≡ 2 → ⊥) → k < 45 → form ≡ k → ⊥
apart form k h a b c e = h (omega arith) (λ q. b (sym e ∙ q)) (omega arith)

pub kind_none : (e : Encoding) (form : ℕ) → IsNoForm form → None ≡ kind_of e form
unfolding kind_of
kind_none e form h = sym (rw (
  ne_eqb form 1 (apart form 1 h (omega arith) (omega arith) (omega arith)),
  ne_eqb form 3 (apart form 3 h (omega arith) (omega arith) (omega arith)),
  ne_eqb form 4 (apart form 4 h (omega arith) (omega arith) (omega arith)),
  ne_eqb form 5 (apart form 5 h (omega arith) (omega arith) (omega arith)),
  ne_eqb form 6 (apart form 6 h (omega arith) (omega arith) (omega arith)),
  ne_eqb form 7 (apart form 7 h (omega arith) (omega arith) (omega arith)),
  ne_eqb form 8 (apart form 8 h (omega arith) (omega arith) (omega arith)),
  ne_eqb form 9 (apart form 9 h (omega arith) (omega arith) (omega arith)),
  ne_eqb form 10 (apart form 10 h (omega arith) (omega arith) (omega arith)),
  ne_eqb form 11 (apart form 11 h (omega arith) (omega arith) (omega arith)),
  ne_eqb form 12 (apart form 12 h (omega arith) (omega arith) (omega arith)),
  ne_eqb form 13 (apart form 13 h (omega arith) (omega arith) (omega arith)),
  ne_eqb form 14 (apart form 14 h (omega arith) (omega arith) (omega arith)),
  ne_eqb form 15 (apart form 15 h (omega arith) (omega arith) (omega arith)),
  ne_eqb form 16 (apart form 16 h (omega arith) (omega arith) (omega arith)),
  ne_eqb form 17 (apart form 17 h (omega arith) (omega arith) (omega arith)),
  ne_eqb form 18 (apart form 18 h (omega arith) (omega arith) (omega arith)),
  ne_eqb form 19 (apart form 19 h (omega arith) (omega arith) (omega arith)),
  ne_eqb form 20 (apart form 20 h (omega arith) (omega arith) (omega arith)),
  ne_eqb form 21 (apart form 21 h (omega arith) (omega arith) (omega arith)),
  ne_eqb form 22 (apart form 22 h (omega arith) (omega arith) (omega arith)),
  ne_eqb form 23 (apart form 23 h (omega arith) (omega arith) (omega arith)),
  ne_eqb form 24 (apart form 24 h (omega arith) (omega arith) (omega arith)),
  ne_eqb form 25 (apart form 25 h (omega arith) (omega arith) (omega arith)),
  ne_eqb form 26 (apart form 26 h (omega arith) (omega arith) (omega arith)),
  ne_eqb form 27 (apart form 27 h (omega arith) (omega arith) (omega arith)),
  ne_eqb form 28 (apart form 28 h (omega arith) (omega arith) (omega arith)),
  ne_eqb form 29 (apart form 29 h (omega arith) (omega arith) (omega arith)),
  ne_eqb form 30 (apart form 30 h (omega arith) (omega arith) (omega arith)),
  ne_eqb form 31 (apart form 31 h (omega arith) (omega arith) (omega arith)),
  ne_eqb form 32 (apart form 32 h (omega arith) (omega arith) (omega arith)),
  ne_eqb form 33 (apart form 33 h (omega arith) (omega arith) (omega arith)),
  ne_eqb form 34 (apart form 34 h (omega arith) (omega arith) (omega arith)),
  ne_eqb form 35 (apart form 35 h (omega arith) (omega arith) (omega arith)),
  ne_eqb form 36 (apart form 36 h (omega arith) (omega arith) (omega arith)),
  ne_eqb form 37 (apart form 37 h (omega arith) (omega arith) (omega arith)),
  ne_eqb form 38 (apart form 38 h (omega arith) (omega arith) (omega arith)),
  ne_eqb form 39 (apart form 39 h (omega arith) (omega arith) (omega arith)),
  ne_eqb form 40 (apart form 40 h (omega arith) (omega arith) (omega arith)),
  ne_eqb form 41 (apart form 41 h (omega arith) (omega arith) (omega arith)),
  ne_eqb form 42 (apart form 42 h (omega arith) (omega arith) (omega arith)),
  ne_eqb form 43 (apart form 43 h (omega arith) (omega arith) (omega arith)),
  ne_eqb form 44 (apart form 44 h (omega arith) (omega arith) (omega arith)),
) refl)
