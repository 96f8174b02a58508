-- Numbers as the bits that are put in so many bytes.
use Rattle.std.specs.Prelude.{◌≡◌, ℕ, Bool, Option, Some, None, IsTrue}
use Rattle.dw_base.specs.Numbers.{num, fits}
use Rattle.dw_writer.specs.Texts.{Text}

-- these bits, in w bytes, are the text in either byte order; where there are none, the text isn't there
abbrev pub AreBitsOf : ℕ → (Bool → Text) → Option ℕ → Type 0
AreBitsOf w text None = (big : Bool) → text big ≡ None
AreBitsOf w text (Some n) = IsTrue (fits w n) × ((big : Bool) → text big ≡ Some (num big w n))
