-- What writers add for sets of address ranges, wherever sections come to start once they are linked.
use Rattle.std.specs.Prelude.{◌≡◌, ℕ, ◌+◌, Bool, false, List, [], ◌∷◌, length, Some, None, Result, Ok, Err, if◌then◌else◌}
use Rattle.dw_base.specs.Numbers.{word_of, fits}
use Rattle.dw_base.specs.declared.error.Error.{Error}
use Rattle.dw_base.specs.declared.section_id.SectionId.TheVariants.{DebugInfo}
use Rattle.dw_writer.specs.Texts.{followed}
use Rattle.dw_writer.specs.Meaning.{Meaning, Layout, Model, Appends, start_of}
use Rattle.dw_writer.specs.New.{IsEmptyPlainWriter}
use Rattle.dw_arange_table.specs.Sets.{RangeSet}
use Rattle.dw_arange_table.specs.Bytes.{set_bytes, aranges_bytes}
use Rattle.dw_arange_table.specs.Causes.{IsNone, Refused}

-- a set whose unit's place counts from where .debug_info starts
abbrev pub linked : Layout → RangeSet → RangeSet
linked l s = record s { unit = s.unit + start_of l DebugInfo }

-- its bytes, where that place fits a word
unfoldable pub set_text : RangeSet → Model
set_text s big l = if fits (word_of s.format) (linked l s).unit then Some (set_bytes big (linked l s)) else None

-- one set behind another
unfoldable pub sets_text : List RangeSet → Model
sets_text [] big l = Some []
sets_text (s ∷ ss) big l = followed (set_text s big l) (sets_text ss big l)

-- how many bytes a set has, and sets have, in either byte order
abbrev pub set_size : RangeSet → ℕ
set_size s = length (set_bytes false s)

abbrev pub sets_size : List RangeSet → ℕ
sets_size sets = length (aranges_bytes false sets)

-- a text is added where no cause stands; else there is a cause, no memory, or a fault
abbrev pub Writes : {T : Type 0} → Result T Error → Meaning → Meaning → ℕ → Model → (Error → Bool) → Type 0
Writes (Ok x) old new size text fails = Appends old new size text × IsNone fails
Writes (Err e) old new size text fails = Refused old new fails e

-- what holds of the bytes of a plain writer to which nothing else was written
abbrev pub HoldsAlone : Meaning → Meaning → (List ℕ → Type 0) → Type 0
HoldsAlone old new holds = IsEmptyPlainWriter old old.is_big → (bytes : List ℕ) → new.bytes ≡ Some bytes → holds bytes
