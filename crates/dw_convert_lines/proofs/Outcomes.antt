-- What a result says, in other words.
use Rattle.std.proofs.Common.{◌⊎◌, Result, Ok, Err, ⊎_elim, inl, inr}
use Rattle.std.specs.Prelude.{IfOk, IfErr}

pub ok_then : {A B : Type 0} (r : Result A B) (P Q : A → Type 0) → ((x : A) → P x → Q x) → IfOk r P → IfOk r Q
ok_then (Ok x) P Q f h = f x h
ok_then (Err e) P Q f h = h

pub err_then : {A B : Type 0} (r : Result A B) (N P Q : B → Type 0) → ((e : B) → P e → Q e) → IfErr r (λ e. N e ⊎ P e) → IfErr r (λ e. N e ⊎ Q e)
err_then (Ok x) N P Q f h = h
err_then (Err e) N P Q f h = ⊎_elim (λ (n : N e). inl n) (λ (p : P e). inr (f e p)) h

pub ok_both : {A B : Type 0} (r : Result A B) (P Q S : A → Type 0) → ((x : A) → P x → Q x → S x) → IfOk r P → IfOk r Q → IfOk r S
ok_both (Ok x) P Q S f h k = f x h k
ok_both (Err e) P Q S f h k = h
