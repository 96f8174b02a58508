-- The sections of strings: each string once, in the order in which they first came, closed by a zero
-- (DWARF 5, 7.26, and 7.5.5 on strings).
use Rattle.std.specs.Prelude.{◌≡◌, ◌≢◌, ℕ, ◌<◌, Bool, List, [], ◌∷◌, ◌++◌, length, take, drop, Option, Some, nat_eq, slice_get, slice_index, AllPairs, if◌then◌else◌}
use Rattle.std.specs.List.{All, flat_map, list_any, position_or_len}
use Rattle.std.specs.Cmp.Lexicographic.{pointwise}
use Rattle.dw_base.specs.Numbers.{◌>>=◌}
use Rattle.dw_base.specs.Forms.{text_at}
use Rattle.dw_base.specs.Spellable.{IsText}

-- whether two strings are equal
abbrev pub is_same_string : List ℕ → List ℕ → Bool
is_same_string a b = pointwise nat_eq a b

-- the index of the first string that equals one, or the next index where none does
abbrev pub string_index : List (List ℕ) → List ℕ → ℕ
string_index strings s = position_or_len (is_same_string s) strings

-- the strings with one more after them, if none equals it
abbrev pub with_string : List (List ℕ) → List ℕ → List (List ℕ)
with_string strings s = if list_any (is_same_string s) strings then strings else strings ++ s ∷ []

-- a string with the zero that closes it
abbrev pub closed : List ℕ → List ℕ
closed s = s ++ 0 ∷ []

-- the section of strings
abbrev pub string_bytes : List (List ℕ) → List ℕ
string_bytes strings = flat_map closed strings

-- where a string of these begins in the section
abbrev pub string_place : List (List ℕ) → ℕ → ℕ
string_place strings i = length (string_bytes (take i strings))

-- each string of a table keeps its number and its place once others were added
abbrev pub KeepStrings : List (List ℕ) → List (List ℕ) → Type 0
KeepStrings old new = (i : ℕ) (s : List ℕ) → slice_get old i ≡ Some s → (slice_get new i ≡ Some s) × (string_place new i ≡ string_place old i)

-- the string at a place of a section, up to its first zero (DWARF 5, 7.5.5)
abbrev pub string_at : ℕ → List ℕ → Option (List ℕ)
string_at place section = text_at (drop place section) >>= λ x. Some x.0

-- no two strings are equal
abbrev pub AllDiffer : List (List ℕ) → Type 0
AllDiffer strings = AllPairs (λ a b. a ≢ b) strings

-- strings that a section can hold, with their places and the bytes of all
pub record AreLaidOut (strings : List (List ℕ)) (places : List ℕ) (size : ℕ) : Type 0 where
  pub texts : All IsText strings
  pub count : length places ≡ length strings
  pub each : (i : ℕ) → i < length strings → slice_index places i ≡ string_place strings i
  pub all : size ≡ length (string_bytes strings)
