-- Pointers of call frame tables, addresses and offsets, and why they can't be written (Linux Standard Base Core 5.0, 10.5.1).
use Rattle.std.specs.Prelude.{ℕ, Bool, true, false, not, ◌&&◌, ◌==◌, Option, Some, None, ℤ}
use Rattle.std.specs.Option.{unwrap_or}
use Rattle.dw_base.specs.Numbers.{◌>>=◌, is_width}
use Rattle.dw_base.specs.Pointers.{format_of, pointer_width, signed_of}
use Rattle.dw_base.specs.declared.address.Address.{Address}
use Rattle.dw_base.specs.declared.address.Address.TheVariants.{Constant, Symbol}
use Rattle.dw_base.specs.declared.error.Error.{Error}
use Rattle.dw_base.specs.declared.error.Error.TheVariants as errors
use Rattle.dw_base.specs.declared.section_id.SectionId.TheVariants.{DebugFrame}
use Rattle.dw_writer.specs.Causes.{offset_fits}
use Rattle.dw_writer.specs.Pointers.{layout_by, laid_size, counted, data_text}
use Rattle.dw_writer.specs.SectionTexts.{offset_text, address_text, eh_pointer_text, eh_pointer_size}
use Rattle.dw_writer.specs.SignedNumbers.{signed_fits}
use Rattle.dw_writer.specs.declared.pointer.PointerLayout.{PointerLayout}
use Rattle.dw_writer.specs.declared.pointer.PointerLayout.TheVariants.{Uleb128, Sleb128, Unsigned, Signed}
use Rattle.dw_expr.specs.Causes.{width_fails, address_fails}
use Rattle.dw_frame.specs.Parts.{Placed, caused, number_fails}

-- a signed number that its width can't hold, or of no width
abbrev pub signed_fails : ℕ → ℤ → Error → Bool
signed_fails w z (errors.UnsupportedWordSize k) = (k == w) && not (is_width w)
signed_fails w z errors.ValueTooLarge = is_width w && not (signed_fits w z)
signed_fails w z err = false

-- an encoding, or a format, that no pointer has
abbrev pub encoding_fails : ℕ → Error → Bool
encoding_fails n (errors.UnsupportedPointerEncoding e) = e.0 == n
encoding_fails n err = false

-- a number in a layout, which the format may not have
abbrev pub laid_fails : Option PointerLayout → ℕ → ℕ → Error → Bool
laid_fails None format n err = encoding_fails format err
laid_fails (Some Uleb128) format n err = false
laid_fails (Some Sleb128) format n err = false
laid_fails (Some (Unsigned w)) format n err = number_fails w n err
laid_fails (Some (Signed w)) format n err = signed_fails w (signed_of n) err

abbrev pub data_fails : ℕ → ℕ → ℕ → Error → Bool
data_fails size format n err = laid_fails (layout_by size format) format n err

-- what the encoding counts from is neither zero nor the place
abbrev pub counted_fails : Option ℕ → ℕ → ℕ → Error → Bool
counted_fails None size encoding err = encoding_fails encoding err
counted_fails (Some n) size encoding err = data_fails size (format_of encoding) n err

-- a record of a pointer has a width, which two formats haven't
abbrev pub record_fails : Option ℕ → ℕ → Error → Bool
record_fails None encoding err = encoding_fails encoding err
record_fails (Some w) encoding err = width_fails w err

-- a pointer to an address at a place; one to a symbol stands in no plain writer
abbrev pub pointer_fails : Bool → ℕ → ℕ → ℕ → Address → Error → Bool
pointer_fails plain size encoding place (Constant n) err = counted_fails (counted encoding place n) size encoding err
pointer_fails true size encoding place (Symbol s a) errors.InvalidAddress = true
pointer_fails true size encoding place (Symbol s a) err = false
pointer_fails false size encoding place (Symbol s a) err = record_fails (pointer_width size (format_of encoding)) encoding err

-- a pointer to an address by an encoding, where addresses have so many bytes
abbrev pub pointer : ℕ → ℕ → Address → Placed
pointer size encoding a at = record {
  piece = record { size = eh_pointer_size size encoding at a; text = eh_pointer_text size encoding at a };
  fails = λ plain. pointer_fails plain size encoding at a;
}

-- an address of so many bytes
abbrev pub address : ℕ → Address → Placed
address w a at = record {
  piece = record { size = w; text = address_text w a };
  fails = λ plain. address_fails w plain a;
}

-- a number by the format of a pointer
abbrev pub pointer_data : ℕ → ℕ → ℕ → Placed
pointer_data size format n = caused
    (record { size = unwrap_or (layout_by size format >>= λ layout. Some (laid_size layout n)) 0; text = λ big l. data_text big size format n })
    (data_fails size format n)

-- an offset into `.debug_frame`
abbrev pub offset_fails : Bool → ℕ → ℕ → Error → Bool
offset_fails plain w n errors.ValueTooLarge = is_width w && not (offset_fits plain w n)
offset_fails plain w n err = width_fails w err

abbrev pub frame_offset : ℕ → ℕ → Placed
frame_offset w n at = record {
  piece = record { size = w; text = offset_text w DebugFrame n };
  fails = λ plain. offset_fails plain w n;
}
