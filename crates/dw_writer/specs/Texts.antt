-- Texts: lists of bytes that are there where every number in them fits its place.
use Rattle.std.specs.Prelude.{ℕ, suc, zero, Bool, ◌&&◌, List, [], ◌∷◌, ◌++◌, Option, Some, None, ℤ, pos, negsuc, if◌then◌else◌}
use Rattle.dw_base.specs.Numbers.{num, is_width, fits}

-- bytes, where every number in them fits
abbrev pub Text : Type 0
Text = Option (List ℕ)

-- n zeros
abbrev pub zeros : ℕ → List ℕ
zeros zero = []
zeros (suc n) = 0 ∷ zeros n

-- one text after another
unfoldable pub followed : Text → Text → Text
followed None b = None
followed (Some xs) None = None
followed (Some xs) (Some ys) = Some (xs ++ ys)

-- xs written over the bytes from place p on; what would pass their end is let go
abbrev pub overwrite : ℕ → List ℕ → List ℕ → List ℕ
overwrite p xs [] = []
overwrite zero [] (b ∷ bs) = b ∷ bs
overwrite zero (x ∷ xs) (b ∷ bs) = x ∷ overwrite zero xs bs
overwrite (suc p) xs (b ∷ bs) = b ∷ overwrite p xs bs

-- a text written over another from place p on
unfoldable pub patched : ℕ → Text → Text → Text
patched p b None = None
patched p None (Some xs) = None
patched p (Some ys) (Some xs) = Some (overwrite p ys xs)

-- the text of a number, where w is a width and the number fits it
unfoldable pub num_text : Bool → ℕ → ℕ → Text
num_text big w n = if is_width w && fits w n then Some (num big w n) else None

-- the same of a whole number, which fits no width below zero
unfoldable pub int_text : Bool → ℕ → ℤ → Text
int_text big w (pos n) = num_text big w n
int_text big w (negsuc n) = None
