-- Addresses that are looked up.
use Rattle.std.proofs.Common.{◌≡◌, ◌∙◌, ap, ℕ, Some, Result, Ok, Err}
use Rattle.std.specs.Prelude.{IsErr}
use Rattle.std.specs.Result.{result_ok, IsErrAnd}
use Rattle.dw_read.specs.Reading.{Reading}
use Rattle.dw_read.specs.Reasons.{◌=>>◌, address_at, address_read}
use Rattle.dw_read.specs.declared.error.ReadError.{ReadError}
use Rattle.dw_read.proofs.Laws.{address_law}
use Rattle.dw_read_units.specs.Lookups.{bytes_from, indexed, StandsAt, IsMissing}
use Rattle.dw_sources.specs.declared.convert_error.ConvertError.{ConvertError}
use Rattle.dw_convert.specs.Lookups.{address_behind}

pub of_ok : {A : Type 0} (r : Result A ReadError) (x : A) → result_ok r ≡ Some x → r ≡ Ok x
of_ok (Ok y) x h = cc
of_ok (Err e) x h = cc

pub found : (section : Reading) (base size i x : ℕ) → StandsAt ℕ (address_at section.is_big size) (indexed base i size) section x → address_behind section base size i ≡ Ok x
unfolding address_behind
found section base size i x h =
    let e : address_read section.is_big size (bytes_from (indexed base i size) section) ≡ Ok (x, h.rest) = of_ok _ _ (address_law section.is_big size (bytes_from (indexed base i size) section) ∙ h.is) in
    ap (λ r. r =>> λ y. Ok y.0) e

pub missing : (section : Reading) (base size i : ℕ) (e : ReadError) → IsMissing ℕ (address_at section.is_big size) (address_read section.is_big size) (indexed base i size) section e → address_behind section base size i ≡ Err e
unfolding address_behind
missing section base size i e h = ap (λ r. r =>> λ y. Ok y.0) h.reason

-- a `?` hands on a reason
pub is_err : {A : Type 0} (r : Result A ConvertError) (e : ConvertError) → IsErr r × IsErrAnd r (λ x. x ≡ e) → r ≡ Err e
is_err (Ok x) e h = absurd h.1
is_err (Err x) e h = ap Err h.1
