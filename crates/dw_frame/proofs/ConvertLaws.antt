-- What is read one after the other, and reasons that are handed on.
use Rattle.std.proofs.Common.{◌≡◌, ap, subst, ℕ, List, [], ◌∷◌, ◌++◌, Some, Result, Ok, Err, refl}
use Rattle.std.specs.Prelude.{IsErr}
use Rattle.std.specs.Result.{IsErrAnd}
use Rattle.dw_base.specs.Numbers.{Parser}
use Rattle.dw_sources.specs.declared.convert_error.ConvertError.{ConvertError}
use Rattle.dw_convert.specs.Lists.{First}

-- one more was read
pub first_more : {A : Type 0} (grammar : Parser A) (bytes : List ℕ) (xs : List A) (rest : List ℕ) (x : A) (next : List ℕ) → First grammar bytes xs rest → grammar rest ≡ Some (x, next) → First grammar bytes (xs ++ x ∷ []) next
first_more grammar bytes [] rest x next h e = (next, subst (λ (b : List ℕ). grammar b ≡ Some (x, next)) h e, refl)
first_more grammar bytes (y ∷ ys) rest x next h e = (h.0, h.1, first_more grammar h.0 ys rest x next h.2 e)

-- a `?` hands on a reason
pub is_err : {A : Type 0} (r : Result A ConvertError) (e : ConvertError) → IsErr r × IsErrAnd r (λ x. x ≡ e) → r ≡ Err e
is_err (Ok x) e h = absurd h.1
is_err (Err x) e h = ap Err h.1
