-- What a reader means, and what its calls read.
use Rattle.std.specs.Prelude.{◌≡◌, ℕ, ◌+◌, ◌-◌, ◌<◌, ◌≤◌, ◌^◌, List, length, take, drop, Some, None, Bool, Result, Err}
use Rattle.dw_base.specs.Numbers.{Parser}
use Rattle.dw_read.specs.declared.error.ReadError.{ReadError}

-- the bytes of a section, the place in them from which on is read, and the end of what is read
pub record Reading : Type 0 where
  pub section : List ℕ
  pub place : ℕ
  pub end : ℕ
  -- whether the highest byte of a number stands first
  pub is_big : Bool

-- a whole section
abbrev pub whole : List ℕ → Bool → Reading
whole bytes big = record { section = bytes; place = 0; end = length bytes; is_big = big }

-- the bytes from the place to the end
abbrev pub left : Reading → List ℕ
left r = take (r.end - r.place) (drop r.place r.section)

-- the place is not past the end, nor the end past the section
pub record IsReading (r : Reading) : Type 0 where
  pub place : r.place ≤ r.end
  pub end : r.end ≤ length r.section
  pub small : r.end < 2 ^ 64

-- n bytes are passed, and all else stays
pub record Passes (n : ℕ) (old new : Reading) : Type 0 where
  pub within : old.place + n ≤ old.end
  pub is : new ≡ record old { place = old.place + n }

-- a part reads the next n bytes, at their place
abbrev pub part : ℕ → Reading → Reading
part n r = record r { end = r.place + n }

-- a reader of the same section that begins where another stands
abbrev pub IsPart : Reading → Reading → Type 0
IsPart r p = p ≡ part (length (left p)) r

-- what the grammar reads from the bytes left is x, and it is passed
pub record Reads (A : Type 0) (grammar : Parser A) (old new : Reading) (x : A) : Type 0 where
  pub count : ℕ
  pub passes : Passes count old new
  pub value : grammar (left old) ≡ Some (x, left new)

-- what is read from the front of bytes with the bytes after it, or the reason why nothing is
abbrev pub Read : Type 0 → Type 0
Read A = List ℕ → Result (A × List ℕ) ReadError

-- the grammar reads nothing from the bytes left, for this reason
pub record Refuses (A : Type 0) (grammar : Parser A) (read : Read A) (old : Reading) (e : ReadError) : Type 0 where
  pub none : grammar (left old) ≡ None
  pub reason : read (left old) ≡ Err e
