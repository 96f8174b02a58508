-- What a `?` hands on, and what an answer tells of what was changed.
use Rattle.std.proofs.Common.{◌≡◌, ap, Result, Ok, Err}
use Rattle.std.specs.Prelude.{IfErr, IfOk, IsErr, OnOk}
use Rattle.std.specs.Result.{IsErrAnd, result_and}

pub is_err : {A E : Type 0} (r : Result A E) (e : E) → IsErr r × IsErrAnd r (λ x. x ≡ e) → r ≡ Err e
is_err (Ok x) e h = absurd h.1
is_err (Err x) e h = ap Err h.1

module _ {T U E : Type 0} (x : U) where
  pub and_ok : {P : Type 0} (Q : U → Type 0) (r : Result T E) → OnOk r P → (P → Q x) → IfOk (result_and r (Ok x)) Q
  and_ok Q (Ok y) p f = f p
  and_ok Q (Err e) p f = tt

  pub and_err : {P Q : E → Type 0} (r : Result T E) → IfErr r P → ((e : E) → P e → Q e) → IfErr (result_and r (Ok x)) Q
  and_err (Ok y) p f = tt
  and_err (Err e) p f = f e p
