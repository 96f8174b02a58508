-- What stands behind so many of something.
use Rattle.std.proofs.Common.{◌≡◌, ◌∙◌, ap, ℕ, zero, suc, List, [], ◌∷◌, Result, Ok, Err, refl}
use Rattle.dw_read.specs.Reading.{Read}
use Rattle.dw_read.specs.Reasons.{◌=>>◌}
use Rattle.dw_read.specs.declared.error.ReadError.{ReadError}
use Rattle.dw_read.proofs.Items.{then_parts}
use Rattle.dw_read_lines.specs.LineEntries.{format_read, formats_read, past}

module _ (A : Type 0) (one : Read A) where
  pub past_none : (n : ℕ) (bytes : List ℕ) → n ≡ 0 → past one n bytes ≡ Ok bytes
  unfolding past
  past_none n bytes h = rw h refl

  pub past_more : (n m : ℕ) (x : A) (bytes rest : List ℕ) → n ≡ suc m → one bytes ≡ Ok (x, rest) → past one n bytes ≡ past one m rest
  unfolding past
  past_more n m x bytes rest h k = rw (h, k) refl

  pub past_not : (n m : ℕ) (bytes : List ℕ) (e : ReadError) → n ≡ suc m → one bytes ≡ Err e → past one n bytes ≡ Err e
  unfolding past
  past_not n m bytes e h k = rw (h, k) refl

abbrev parts_of : List (ℕ × ℕ) → List ℕ → Result (List (ℕ × ℕ) × List ℕ) ReadError
parts_of parts rest = Ok (parts, rest)

abbrev missing : ReadError → Result (List (ℕ × ℕ) × List ℕ) ReadError
missing e = Err e

-- parts behind one
abbrev behind_part : ℕ × ℕ → Result (List (ℕ × ℕ) × List ℕ) ReadError → Result (List (ℕ × ℕ) × List ℕ) ReadError
behind_part part r = r =>> λ more. Ok (part ∷ more.0, more.1)

abbrev after_part : ℕ → Result ((ℕ × ℕ) × List ℕ) ReadError → Result (List (ℕ × ℕ) × List ℕ) ReadError
after_part n r = r =>> λ x. behind_part x.0 (formats_read n x.1)

-- parts that are passed are there
pub formats_there : (n : ℕ) (bytes rest : List ℕ) → past format_read n bytes ≡ Ok rest → (parts : List (ℕ × ℕ)) × (formats_read n bytes ≡ Ok (parts, rest))
unfolding past formats_read
formats_there zero bytes rest h = let e : bytes ≡ rest = cc in ([], ap (λ (r : List ℕ). parts_of [] r) e)
formats_there (suc n) bytes rest h =
    let a = then_parts (format_read bytes) (λ x. past format_read n x.1) rest h in
    let more = formats_there n a.0.1 rest a.2 in
    (a.0.0 ∷ more.0, ap (after_part n) a.1 ∙ ap (behind_part a.0.0) more.1)

pub formats_missing : (n : ℕ) (bytes : List ℕ) (e : ReadError) → past format_read n bytes ≡ Err e → formats_read n bytes ≡ Err e
unfolding past formats_read
formats_missing zero bytes e h = absurd (cc)
formats_missing (suc n) bytes e h = after (format_read bytes) (λ bs k. formats_missing n bs e k) h where
  after : (r : Result ((ℕ × ℕ) × List ℕ) ReadError) → ((bs : List ℕ) → past format_read n bs ≡ Err e → formats_read n bs ≡ Err e) → (r =>> λ x. past format_read n x.1) ≡ Err e → after_part n r ≡ Err e
  after (Ok x) k h = ap (behind_part x.0) (k x.1 h)
  after (Err y) k h = let q : y ≡ e = cc in ap (λ (z : ReadError). missing z) q
