-- What CIEs and FDEs have in common: a length, and padding to a multiple of an address (DWARF 5, 6.4.1 and 7.4).
use Rattle.std.specs.Prelude.{ℕ, ◌+◌, ◌-◌, ◌%◌, Bool, false, not, ◌++◌, Some, if◌then◌else◌}
use Rattle.dw_base.specs.Numbers.{when, num, is_width, word_of, length_size, escape_of, length_fits}
use Rattle.dw_base.specs.declared.common.Encoding.{Encoding}
use Rattle.dw_base.specs.declared.common.Format.{Format}
use Rattle.dw_base.specs.declared.error.Error.{Error}
use Rattle.dw_base.specs.declared.error.Error.TheVariants as errors
use Rattle.dw_writer.specs.Texts.{zeros}
use Rattle.dw_expr.specs.Causes.{width_fails}
use Rattle.dw_frame_instructions.specs.Pieces.{Piece, missing, bytes, number, both}
use Rattle.dw_frame_instructions.specs.Causes.{either}
use Rattle.dw_frame.specs.Parts.{Part, Placed, free, caused, in_turn, number_fails}

-- a length that the format can spell
abbrev pub length_piece : Format → ℕ → Piece
length_piece format n = record
    { size = length_size format; text = λ big l. when (length_fits format n) (Some (escape_of format ++ num big (word_of format) n)) }

abbrev pub length_fails : Format → ℕ → Error → Bool
length_fails format n errors.InitialLengthOverflow = not (length_fits format n)
length_fails format n err = false

-- a part behind its length
unfoldable pub with_length : Format → Part → Part
with_length format p = record {
  piece = both (length_piece format p.piece.size) p.piece;
  fails = λ plain. either (p.fails plain) (length_fails format p.piece.size);
}

abbrev pub measured : Format → Placed → Placed
measured format body at = with_length format (body (at + length_size format))

-- what lacks at a multiple of w
abbrev pub padding : ℕ → ℕ → ℕ
padding w n = (w - n % w) % w

-- instructions without an effect until the word and n bytes are a multiple of an address
abbrev pub padded : Encoding → ℕ → Placed
padded e n =
    if is_width e.address_size then free (bytes (zeros (padding e.address_size (word_of e.format + n))))
    else caused missing (width_fails e.address_size)

-- an entry of these contents
abbrev pub entry : Encoding → Placed → Placed
entry e body = measured e.format (λ at. in_turn body (padded e (body at).piece.size) at)

-- a part behind its length of one byte
unfoldable pub with_count : Part → Part
with_count p = record {
  piece = both (number 1 p.piece.size) p.piece;
  fails = λ plain. either (p.fails plain) (number_fails 1 p.piece.size);
}

abbrev pub counted : Placed → Placed
counted body at = with_count (body (at + 1))
