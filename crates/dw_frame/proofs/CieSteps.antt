-- What writes of a CIE's fields come to.
use Rattle.std.specs.Prelude.{◌≡◌, ℕ, Bool, true, false, [], ◌∷◌, refl, if◌then◌else◌}
use Rattle.std.proofs.Common.{sym, ap}
use Rattle.std.proofs.lemmas.Bool.{ne_eqb, eq-eqb}
use Rattle.dw_frame_instructions.specs.Pieces.{nothing, bytes}
use Rattle.dw_frame.specs.Cies.{byte_if, sizes}

pub byte_none : (b : Bool) (n : ℕ) → b ≡ false → nothing ≡ byte_if b n
byte_none true n e = cc
byte_none false n e = refl

pub byte_some : (b : Bool) (n : ℕ) → b ≡ true → bytes (n ∷ []) ≡ byte_if b n
byte_some true n e = refl
byte_some false n e = cc

pub sizes_none : (v w : ℕ) → (v ≡ 4 → ⊥) → nothing ≡ sizes v w
sizes_none v w h = ap (λ b. if b then bytes (w ∷ 0 ∷ []) else bytes []) (sym (ne_eqb v 4 h))

pub sizes_some : (v w : ℕ) → v ≡ 4 → bytes (w ∷ 0 ∷ []) ≡ sizes v w
sizes_some v w h = ap (λ b. if b then bytes (w ∷ 0 ∷ []) else bytes []) (sym (eq-eqb v 4 h))
