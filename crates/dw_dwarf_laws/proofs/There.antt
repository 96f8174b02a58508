-- Texts that are there.
use Rattle.std.specs.Prelude.{◌≡◌, ℕ, Bool, true, false, not, List, ◌++◌, Some, refl, IsTrue, IsFalse}
use Rattle.std.proofs.Common.{◌∙◌, ap}
use Rattle.dw_base.specs.Numbers.{num, is_width, fits, word_of}
use Rattle.dw_base.specs.declared.common.Format.{Format}
use Rattle.dw_base.specs.declared.common.Format.TheVariants.{Dwarf32, Dwarf64}
use Rattle.dw_writer.specs.Texts.{Text, num_text, followed}
use Rattle.dw_writer.proofs.Laws.{followed-somes}
use Rattle.dw_writer.proofs.Plain.{num-shown}
pub use Rattle.dw_tree.specs.Pending.{IsThere}

pub itself_there : (xs : List ℕ) → IsThere (Some xs)
itself_there xs = (xs, refl)

-- one text after another
pub followed_there : (a b : Text) → IsThere a → IsThere b → IsThere (followed a b)
followed_there a b x y = (x.0 ++ y.0, ap (λ t. followed t b) x.1 ∙ ap (followed (Some x.0)) y.1 ∙ followed-somes x.0 y.0)

-- a number that fits
pub number_there : (big : Bool) (w n : ℕ) → IsTrue (is_width w) → IsTrue (fits w n) → IsThere (num_text big w n)
number_there big w n wide fit = (num big w n, num-shown big w n wide fit)

pub not_false : (b : Bool) → IsFalse (not b) → IsTrue b
not_false true h = refl
not_false false h = absurd (let k : true ≡ false = h in cc)

-- a word has the width of a number
pub word_wide : (format : Format) → IsTrue (is_width (word_of format))
word_wide Dwarf32 = refl
word_wide Dwarf64 = refl
