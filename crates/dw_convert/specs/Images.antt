-- What values become before strings and lists have their ids, so that they are told by what they are.
use Rattle.std.specs.Prelude.{ℕ, List}
use Rattle.dw_base.specs.Spellable.{IsText}
use Rattle.dw_read.specs.Reading.{Reading, left}
use Rattle.dw_convert.specs.declared.image.Image.{Image as HeldImage}
use Rattle.dw_convert.specs.declared.image.Image.TheVariants.{Value, String, LineString, Ranges, Locations}

-- a value that names nothing in a table, or a string or a list that goes into one
abbrev pub Image : Type 0
Image = HeldImage (List ℕ) Unit

-- the bytes of strings that readers have left
abbrev pub image_of : {R E : Type 0} → (R → Reading) → HeldImage R E → Image
image_of reading (Value v) = Value v
image_of reading (String r) = String (left (reading r))
image_of reading (LineString r) = LineString (left (reading r))
image_of reading (Ranges xs) = Ranges xs
image_of reading (Locations xs) = Locations xs

-- a string has no zero, which would close it
abbrev pub HoldsText : Image → Type 0
HoldsText (String xs) = IsText xs
HoldsText (LineString xs) = IsText xs
HoldsText i = Unit {0}
