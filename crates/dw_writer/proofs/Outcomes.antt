-- What stands under one variant of a result.
use Rattle.std.specs.Prelude.{◌≡◌, Result, Ok, Err, OnOk, OnErr, IfErr}
use Rattle.std.specs.Result.{IsErrAnd}
use Rattle.std.proofs.Common.{sym, subst}

pub OnOk-map : {T E P Q : Type 0} (r : Result T E) → OnOk r P → (P → Q) → OnOk r Q
OnOk-map (Ok x) p f = f p
OnOk-map (Err e) p f = tt

pub IfErr-map : {T E : Type 0} {P Q : E → Type 0} (r : Result T E) → IfErr r P → ((e : E) → P e → Q e) → IfErr r Q
IfErr-map (Ok x) p f = tt
IfErr-map (Err e) p f = f e p

pub OnErr-map : {T E P Q : Type 0} (r : Result T E) → OnErr r P → (P → Q) → OnErr r Q
OnErr-map (Ok x) p f = tt
OnErr-map (Err e) p f = f p

pub OnErr-always : {T E P : Type 0} (r : Result T E) → P → OnErr r P
OnErr-always (Ok x) p = tt
OnErr-always (Err e) p = p

pub OnOk-always : {T E P : Type 0} (r : Result T E) → P → OnOk r P
OnOk-always (Ok x) p = p
OnOk-always (Err e) p = tt

-- what a `?` hands on is the error of its call
pub IfErr-exit : {T E : Type 0} (r : Result T E) (P : E → Type 0) {e : E} → IsErrAnd r (λ y. y ≡ e) → P e → IfErr r P
IfErr-exit (Ok x) P h p = absurd h
IfErr-exit (Err y) P h p = subst P (sym h) p

pub IfErr-exit_as : {T E : Type 0} (r : Result T E) (P : E → Type 0) (e d : E) → IsErrAnd r (λ y. y ≡ e) → e ≡ d → P d → IfErr r P
IfErr-exit_as r P e d h is p = IfErr-exit r P h (subst P (sym is) p)
