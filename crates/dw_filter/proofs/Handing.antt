-- What a `?` hands on.
use Rattle.std.proofs.Common.{◌≡◌, ap, sym, subst, Result, Ok, Err, IfErr}
use Rattle.std.specs.Prelude.{IsErr, OnOk}
use Rattle.std.specs.Result.{IsErrAnd}
use Rattle.dw_sources.specs.declared.convert_error.ConvertError.{ConvertError}

-- a `?` hands on a reason
pub handed_on : {A : Type 0} (r : Result A ConvertError) (e : ConvertError) (P : ConvertError → Type 0) → IsErr r × IsErrAnd r (λ x. x ≡ e) → P e → IfErr r P
handed_on (Ok x) e P h p = tt
handed_on (Err x) e P h p = subst P (sym h.1) p

pub is_err : {A : Type 0} (r : Result A ConvertError) (e : ConvertError) → IsErr r × IsErrAnd r (λ x. x ≡ e) → r ≡ Err e
is_err (Ok x) e h = absurd h.1
is_err (Err x) e h = ap Err h.1

-- what a call answers leads to what is asked of the same answer
pub passed_on : {A P Q : Type 0} (r : Result A ConvertError) → OnOk r P → (P → Q) → OnOk r Q
passed_on (Ok x) p f = f p
passed_on (Err x) p f = tt
