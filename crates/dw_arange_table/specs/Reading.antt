-- What a reader has of `.debug_aranges`, or the reason why it has nothing (DWARF 5, 6.1.2).
use Rattle.std.specs.Prelude.{◌≡◌, ◌≢◌, ◌⊎◌, ℕ, zero, suc, ◌==◌, Bool, false, not, List, [], ◌∷◌, length, Option, Some, None, Result, Ok, Err}
use Rattle.dw_base.specs.Numbers.{Parser, ◌>>=◌, when, number_at, word_of, is_width}
use Rattle.dw_base.specs.declared.common.Format.{Format}
use Rattle.dw_read.specs.Reading.{Reading, Read, Reads, left}
use Rattle.dw_read.specs.Reasons.{◌=>>◌, if_so, bytes_read, number_read, initial_length_read}
use Rattle.dw_read.specs.declared.error.ReadError.{ReadError}
use Rattle.dw_read.specs.declared.error.ReadError.TheVariants.{UnexpectedEof, UnknownReservedLength, UnknownVersion, UnsupportedAddressSize, UnsupportedSegmentSize, NoMemory}
use Rattle.dw_arange_table.specs.declared.range.RangeDescriptor.{RangeDescriptor}
use Rattle.dw_arange_table.specs.Sets.{RangeSet, is_end}
use Rattle.dw_arange_table.specs.Bytes.{padding}

abbrev pub range_of : ℕ → ℕ → RangeDescriptor
range_of address size = record { address = address; length = size }

-- a range; none where less than a pair of numbers is left, or where both are zero
unfoldable pub range_at : Bool → ℕ → Parser RangeDescriptor
range_at big w bytes =
    number_at big w bytes >>= λ address. number_at big w address.1 >>= λ size.
    when (not (is_end (range_of address.0 size.0))) (Some (range_of address.0 size.0, size.1))

-- after a range there may be more
abbrev pub ranges_after : (List ℕ → List RangeDescriptor) → Option (RangeDescriptor × List ℕ) → List RangeDescriptor
ranges_after more None = []
ranges_after more (Some (r, rest)) = r ∷ more rest

-- the ranges in front of bytes, up to the first place where none is, at most so many
unfoldable pub ranges_up_to : ℕ → Bool → ℕ → List ℕ → List RangeDescriptor
ranges_up_to zero big w bytes = []
ranges_up_to (suc most) big w bytes = ranges_after (ranges_up_to most big w) (range_at big w bytes)

-- all of them: each has a byte at least
abbrev pub ranges_in : Bool → ℕ → List ℕ → List RangeDescriptor
ranges_in big w bytes = ranges_up_to (length bytes) big w bytes

-- what follows the length, up to the first range: the version, the unit's place, the size of an address, the size of a segment
-- selector, and padding. The unit's place and the size of an address are what is told.
unfoldable pub fields_read : Bool → Format → Read (ℕ × ℕ)
fields_read big format bytes =
    number_read big 2 bytes =>> λ version. if_so (version.0 == 2) (UnknownVersion version.0)
    (number_read big (word_of format) version.1 =>> λ unit. number_read big 1 unit.1 =>> λ size. if_so (is_width size.0) (UnsupportedAddressSize size.0)
    (number_read big 1 size.1 =>> λ selector. if_so (selector.0 == 0) (UnsupportedSegmentSize selector.0)
    (bytes_read (padding format size.0) selector.1 =>> λ unused. Ok ((unit.0, size.0), unused.1))))

-- a set that begins the bytes, and the bytes that follow its length's end
unfoldable pub set_read : Bool → Read RangeSet
set_read big bytes =
    initial_length_read big bytes =>> λ start. bytes_read start.0.1 start.1 =>> λ content. fields_read big start.0.0 content.0 =>> λ fields.
    Ok (record { format = start.0.0; address_size = fields.0.1; unit = fields.0.0; ranges = ranges_in big fields.0.1 fields.1 }, content.1)

abbrev pub unless_empty : List ℕ → Result (List RangeSet) ReadError → Result (List RangeSet) ReadError
unless_empty [] sets = Ok []
unless_empty (b ∷ bytes) sets = sets

-- sets to the end of the bytes, at most so many, or the reason why one of them isn't there
unfoldable pub sets_up_to : ℕ → Bool → List ℕ → Result (List RangeSet) ReadError
sets_up_to zero big bytes = unless_empty bytes (Err UnexpectedEof)
sets_up_to (suc most) big bytes = unless_empty bytes (set_read big bytes =>> λ s. sets_up_to most big s.1 =>> λ others. Ok (s.0 ∷ others))

-- the sets of a section: each has a byte at least
abbrev pub sets_read : Bool → List ℕ → Result (List RangeSet) ReadError
sets_read big bytes = sets_up_to (length bytes) big bytes

-- a section is refused for the reason why its sets aren't there, or for want of memory
abbrev pub SetsRefused : Reading → ReadError → Type 0
SetsRefused r e = (e ≡ NoMemory) ⊎ (sets_read r.is_big (left r) ≡ Err e)

-- what each reason says; there are no others
abbrev pub IsReason : ReadError → Type 0
IsReason UnexpectedEof = Unit {0}
IsReason UnknownReservedLength = Unit {0}
IsReason (UnknownVersion version) = version ≢ 2
IsReason (UnsupportedAddressSize size) = is_width size ≡ false
IsReason (UnsupportedSegmentSize size) = size ≢ 0
IsReason NoMemory = Unit {0}
IsReason e = ⊥

-- what a call that reads a range answers: the range, which it passes, or that none is there
abbrev pub FindsRange : ℕ → Reading → Reading → Option RangeDescriptor → Type 0
FindsRange w old new None = range_at old.is_big w (left old) ≡ None
FindsRange w old new (Some r) = Reads RangeDescriptor (range_at old.is_big w) old new r
