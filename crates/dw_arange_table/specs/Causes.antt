-- Why a writer refuses sets of address ranges.
use Rattle.std.specs.Prelude.{Bool, false, not, List, length, IsTrue, IsFalse}
use Rattle.std.specs.List.{list_any}
use Rattle.dw_base.specs.Numbers.{word_of, length_fits}
use Rattle.dw_base.specs.declared.error.Error.{Error}
use Rattle.dw_base.specs.declared.error.Error.TheVariants as errors
use Rattle.dw_writer.specs.Contents.{Meaning}
use Rattle.dw_writer.specs.Causes.{HasRisen, offset_fits}
use Rattle.dw_arange_table.specs.Sets.{RangeSet}
use Rattle.dw_arange_table.specs.Bytes.{content_bytes}

-- a set has a length that its format can't spell, or its unit a place that doesn't fit a word; by whether the writer is plain
abbrev pub set_fails : Bool → RangeSet → Error → Bool
set_fails plain s errors.InitialLengthOverflow = not (length_fits s.format (length (content_bytes false s)))
set_fails plain s errors.ValueTooLarge = not (offset_fits plain (word_of s.format) s.unit)
set_fails plain s e = false

abbrev pub sets_fail : Bool → List RangeSet → Error → Bool
sets_fail plain sets e = list_any (λ s. set_fails plain s e) sets

-- there is no cause
abbrev pub IsNone : (Error → Bool) → Type 0
IsNone fails = (e : Error) → IsFalse (fails e)

-- a write is refused for want of memory, by a fault of the writer, or for one of these causes
abbrev pub Refused : Meaning → Meaning → (Error → Bool) → Error → Type 0
Refused old new fails errors.NoMemory = Unit {0}
Refused old new fails errors.WriteFault = HasRisen old new
Refused old new fails e = IsTrue (fails e)
