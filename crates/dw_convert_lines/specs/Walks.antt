-- Entries that are read one after the other up to their end, each of which adds to what was made so far.
use Rattle.std.specs.Prelude.{◌≡◌, ◌⊎◌, ℕ, ◌-◌, List, [], ◌∷◌, Option, Some, None, Result, Ok, Err}
use Rattle.dw_read.specs.Reading.{Read}
use Rattle.dw_read.specs.declared.error.ReadError.{ReadError}
use Rattle.dw_sources.specs.ConvertErrors.{from_read}
use Rattle.dw_sources.specs.declared.convert_error.ConvertError.{ConvertError}
use Rattle.dw_convert_lines.specs.Results.{◌=>◌}

-- what several entries add
abbrev pub images : {A S : Type 0} → (A → S → Result S ConvertError) → List A → S → Result S ConvertError
images image [] s = Ok s
images image (x ∷ xs) s = image x s => λ t. images image xs t

-- The entries are read where so many of them are still told, or the end.
module _ {A : Type 0} (reads : ℕ → Read (Option A)) where
  -- the first entries, behind which m are left and the bytes `rest`
  abbrev pub First : ℕ → List ℕ → List A → ℕ → List ℕ → Type 0
  First n bytes [] m rest = (m ≡ n) × (rest ≡ bytes)
  First n bytes (x ∷ xs) m rest = (next : List ℕ) × (reads n bytes ≡ Ok (Some x, next)) × First (n - 1) next xs m rest

  -- an entry that can't be read, for this reason
  pub record MissesNext (m : ℕ) (rest : List ℕ) (e : ConvertError) : Type 0 where
    pub error : ReadError
    pub reason : reads m rest ≡ Err error
    pub is : e ≡ from_read error

  module _ {S : Type 0} (image : A → S → Result S ConvertError) where
    -- the first entries, and what they make
    pub record Walked (n : ℕ) (bytes : List ℕ) (s : S) (m : ℕ) (rest : List ℕ) (made : S) : Type 0 where
      pub entries : List A
      pub read : First n bytes entries m rest
      pub become : images image entries s ≡ Ok made

    -- all entries, and what they make; `behind` stands behind their end
    pub record WalkedOver (n : ℕ) (bytes : List ℕ) (s : S) (made : S) (behind : List ℕ) : Type 0 where
      pub count : ℕ
      pub rest : List ℕ
      pub walked : Walked n bytes s count rest made
      pub end : reads count rest ≡ Ok (None, behind)

    -- an entry that becomes nothing, for this reason
    pub record RefusesNext (m : ℕ) (rest : List ℕ) (made : S) (e : ConvertError) : Type 0 where
      pub entry : A
      pub next : List ℕ
      pub read : reads m rest ≡ Ok (Some entry, next)
      pub refused : image entry made ≡ Err e

    -- the next entry behind the first ones can't be read or becomes nothing
    pub record Stopped (n : ℕ) (bytes : List ℕ) (s : S) (e : ConvertError) : Type 0 where
      pub count : ℕ
      pub rest : List ℕ
      pub made : S
      pub walked : Walked n bytes s count rest made
      pub cause : MissesNext count rest e ⊎ RefusesNext count rest made e

    -- what all entries make, with the bytes behind their end
    abbrev pub WalkOutcome : ℕ → List ℕ → S → Result (S × List ℕ) ConvertError → Type 0
    WalkOutcome n bytes s (Ok x) = WalkedOver n bytes s x.0 x.1
    WalkOutcome n bytes s (Err e) = Stopped n bytes s e
