-- What can be wrong with a relocation.
use Rattle.std.specs.Prelude.{ℕ, ◌==◌, Bool, true, false, ◌&&◌, ◌||◌, List, length, Option, Some, None, slice_get}
use Rattle.std.specs.Option.{is_some}
use Rattle.dw_base.specs.Pointers.{format_of, application_of, from_zero, from_place, pointer_width}
use Rattle.dw_base.specs.declared.constants.DwEhPe.{DwEhPe}
use Rattle.dw_base.specs.declared.section_id.SectionId.{SectionId}
use Rattle.dw_writer.specs.Layout.{Layout, section_number, is_symbol}
use Rattle.dw_writer.specs.Resolved.{number_at_place, record_text, is_inside}
use Rattle.dw_writer.specs.declared.relocate.Relocation.{Relocation}
use Rattle.dw_writer.specs.declared.relocate.RelocationTarget.{RelocationTarget}
use Rattle.dw_writer.specs.declared.relocate.RelocationTarget.TheVariants.{Symbol, Section}
use Rattle.dw_link.specs.declared.error.LinkError.{LinkError}
use Rattle.dw_link.specs.declared.error.LinkError.TheVariants as errors
use Rattle.dw_link.specs.declared.fault.Fault.{Fault}
use Rattle.dw_link.specs.declared.fault.Fault.TheVariants.{PointerEncoding, RecordOutOfPlace, UnknownSymbol, UnknownSection, ValueTooLarge}

-- a fault that stands unless a test holds
abbrev pub unless : Bool → Fault → Option Fault
unless true f = None
unless false f = Some f

-- the first of two that stands
abbrev pub first_of : Option Fault → Option Fault → Option Fault
first_of None b = b
first_of (Some f) b = Some f

-- the encoding counts from zero or from the place of its number
abbrev pub is_counted : ℕ → Bool
is_counted encoding = (application_of encoding == from_zero) || (application_of encoding == from_place)

-- a width that is there, and is w
abbrev pub is_width_of : ℕ → Option ℕ → Bool
is_width_of w None = false
is_width_of w (Some k) = k == w

-- a pointer of w bytes by this encoding can be linked: its format has as many bytes, and that of an address has any
abbrev pub is_linkable : ℕ → ℕ → Bool
is_linkable w encoding = is_counted encoding && is_width_of w (pointer_width w (format_of encoding))

-- there is no encoding, or one that can be linked, which leads to a symbol
abbrev pub takes_encoding : ℕ → RelocationTarget → Option DwEhPe → Bool
takes_encoding w target None = true
takes_encoding w target (Some encoding) = is_symbol target && is_linkable w encoding.0

-- a symbol has no value, or a section has no start
abbrev pub target_fault : Layout → RelocationTarget → Option Fault
target_fault l (Symbol n) = unless (is_some (slice_get l.symbols n)) UnknownSymbol
target_fault l (Section s) = unless (is_some (slice_get l.starts (section_number s))) UnknownSection

-- the first that is wrong with a relocation of a part with these bytes: its encoding, its width or place, its target, or the
-- sum of the number in its place, the addend and the target's value, which has no text there
unfoldable pub fault_of : Bool → Layout → List ℕ → Relocation → Option Fault
fault_of big l bytes r =
    first_of (unless (takes_encoding r.size r.target r.eh_pe) PointerEncoding)
    (first_of (unless (is_inside (length bytes) r) RecordOutOfPlace)
    (first_of (target_fault l r.target)
    (unless (is_some (record_text big l r (number_at_place big r.offset r.size bytes))) ValueTooLarge)))

-- the error that says where a relocation with a fault stands
abbrev pub error_at : Fault → ℕ → SectionId → ℕ → LinkError
error_at PointerEncoding n s k = errors.PointerEncoding n s k
error_at RecordOutOfPlace n s k = errors.RecordOutOfPlace n s k
error_at UnknownSymbol n s k = errors.UnknownSymbol n s k
error_at UnknownSection n s k = errors.UnknownSection n s k
error_at ValueTooLarge n s k = errors.ValueTooLarge n s k
