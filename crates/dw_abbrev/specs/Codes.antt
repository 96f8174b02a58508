-- The codes of the shapes of a table.
use Rattle.std.specs.Prelude.{◌≡◌, ◌≢◌, ℕ, suc, ◌<◌, ◌^◌, List, [], ◌∷◌, ◌++◌, Some, if◌then◌else◌, All, AllPairs}
use Rattle.dw_base.specs.Abbreviations.{Shape, Declaration, table_at, shape_of_code}
use Rattle.dw_base.specs.Spelling.{table_bytes}
use Rattle.dw_base.specs.Spellable.{IsSpecification}
use Rattle.dw_abbrev.specs.Equal.{shape_eq}

-- the code of a shape, counted from 1: its place, or the next one where it isn't there
abbrev pub code_in : List Shape → Shape → ℕ
code_in [] s = 1
code_in (x ∷ xs) s = if shape_eq s x then 1 else suc (code_in xs s)

-- the shapes with one more after them, if it isn't there
abbrev pub with_shape : List Shape → Shape → List Shape
with_shape [] s = s ∷ []
with_shape (x ∷ xs) s = if shape_eq s x then x ∷ xs else x ∷ with_shape xs s

-- no two shapes are equal
abbrev pub AllDiffer : List Shape → Type 0
AllDiffer shapes = AllPairs (λ a b. a ≢ b) shapes

-- shapes with their codes, from a number upwards
abbrev pub numbered : ℕ → List Shape → List Declaration
numbered code [] = []
numbered code (s ∷ ss) = record { code = code; shape = s } ∷ numbered (suc code) ss

-- what a table of these shapes declares
abbrev pub declarations : List Shape → List Declaration
declarations shapes = numbered 1 shapes

-- each code stands for the shape that it stood for
abbrev pub KeepsCodes : List Shape → List Shape → Type 0
KeepsCodes old new = (code : ℕ) (s : Shape) → shape_of_code (declarations old) code ≡ Some s → shape_of_code (declarations new) code ≡ Some s

-- a shape that a table can declare
pub record IsShape (s : Shape) : Type 0 where
  pub tag : 0 < s.tag
  pub tag_fits : s.tag < 2 ^ 16
  pub attributes : All IsSpecification s.attributes

-- the table of these shapes is read again, whatever follows it
abbrev pub IsReadAgain : List Shape → Type 0
IsReadAgain shapes = (rest : List ℕ) → table_at (table_bytes (declarations shapes) ++ rest) ≡ Some (declarations shapes, rest)
