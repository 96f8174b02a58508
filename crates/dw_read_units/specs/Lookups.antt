-- What stands at offsets of sections, and what indices lead to (DWARF 5, 7.26 to 7.29).
use Rattle.std.specs.Prelude.{◌≡◌, ◌⊎◌, ℕ, ◌+◌, ◌*◌, ◌^◌, ◌≤◌, List, drop, Some, None, Err}
use Rattle.dw_base.specs.Numbers.{Parser, number_at}
use Rattle.dw_read.specs.Reading.{Reading, Read, left}
use Rattle.dw_read.specs.Reasons.{number_read}
use Rattle.dw_read.specs.declared.error.ReadError.{ReadError}
use Rattle.dw_read.specs.declared.error.ReadError.TheVariants.{OffsetOutOfBounds}

-- the bytes of a section from an offset on
abbrev pub bytes_from : ℕ → Reading → List ℕ
bytes_from offset r = drop offset (left r)

-- a reader of these bytes
pub record IsFrom (offset : ℕ) (section r : Reading) : Type 0 where
  pub bytes : left r ≡ bytes_from offset section
  pub order : r.is_big ≡ section.is_big

-- what the grammar reads at an offset is x
pub record StandsAt (A : Type 0) (grammar : Parser A) (offset : ℕ) (section : Reading) (x : A) : Type 0 where
  pub rest : List ℕ
  pub is : grammar (bytes_from offset section) ≡ Some (x, rest)

-- the grammar reads nothing at an offset, for this reason
pub record IsMissing (A : Type 0) (grammar : Parser A) (read : Read A) (offset : ℕ) (section : Reading) (e : ReadError) : Type 0 where
  pub none : grammar (bytes_from offset section) ≡ None
  pub reason : read (bytes_from offset section) ≡ Err e

-- the place of an index behind a base, where items have a width
abbrev pub indexed : ℕ → ℕ → ℕ → ℕ
indexed base index width = base + index * width

-- The place of the list of an index: the word that stands for the index counts from the base.
pub record FindsList (width base index : ℕ) (section : Reading) (place : ℕ) : Type 0 where
  pub offset : ℕ
  pub stands : StandsAt ℕ (number_at section.is_big width) (indexed base index width) section offset
  pub is : place ≡ base + offset

-- no word stands there, or it leads past every section
pub record LeadsPast (width base index : ℕ) (section : Reading) (e : ReadError) : Type 0 where
  pub offset : ℕ
  pub stands : StandsAt ℕ (number_at section.is_big width) (indexed base index width) section offset
  pub past : 2 ^ 64 ≤ base + offset
  pub is : e ≡ OffsetOutOfBounds offset

abbrev pub MissesList : ℕ → ℕ → ℕ → Reading → ReadError → Type 0
MissesList width base index section e =
    IsMissing ℕ (number_at section.is_big width) (number_read section.is_big width) (indexed base index width) section e ⊎ LeadsPast width base index section e
