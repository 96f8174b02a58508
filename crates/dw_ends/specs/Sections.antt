-- Listings read back: what the lines so far have said of the sections.
use Rattle.std.specs.Prelude.{ℕ, ◌+◌, Bool, true, false, List, [], ◌∷◌, length, get_or, Option, Some, None, Result, Ok, Err, ◌≡◌, ◌==◌, if◌then◌else◌, slice_set, replicate, IsOk}
use Rattle.std.specs.List.{slice_split}
use Rattle.dw_base.specs.declared.endianity.RunTimeEndian.{RunTimeEndian}
use Rattle.dw_base.specs.declared.endianity.RunTimeEndian.TheVariants.{Little}
use Rattle.dw_ends.specs.declared.line.Line.{Line}
use Rattle.dw_ends.specs.declared.line.Line.TheVariants.{Order, Section}
use Rattle.dw_ends.specs.declared.line_error.LineError.{LineError}
use Rattle.dw_ends.specs.declared.line_error.LineError.TheVariants.{Refused, NoMemory}
use Rattle.dw_ends.specs.declared.reason.Reason.{Reason}
use Rattle.dw_ends.specs.declared.reason.Reason.TheVariants.{OrderNotFirst, WrongLength, Twice}
use Rattle.dw_ends.specs.Fields.{Outcome, ◌>>=◌}
use Rattle.dw_ends.specs.Lines.{parsed_line}

-- the byte order, whether there was a line that isn't passed over, and, of each section that a listing may have, whether there
-- was a line of it, and its bytes
pub record ListingValue : Type 0 where
  pub endian : RunTimeEndian
  pub is_begun : Bool
  pub is_taken : List Bool
  pub sections : List (List ℕ)

-- before the first line: little-endian, and every section empty
abbrev pub empty_listing : ListingValue
empty_listing = record { endian = Little; is_begun = false; is_taken = replicate 13 false; sections = replicate 13 [] }

-- with this byte order
abbrev pub with_order : ListingValue → RunTimeEndian → ListingValue
with_order v endian = record v { endian = endian; is_begun = true }

-- with these bytes of the section at a place
abbrev pub with_section : ListingValue → ℕ → List ℕ → ListingValue
with_section v place bytes = record v {
  is_begun = true;
  is_taken = slice_set v.is_taken place true;
  sections = slice_set v.sections place bytes;
}

-- what a line changes: the order stands before all others, and a section has as many bytes as its line says, and one line
abbrev pub after_said : ListingValue → Line → Outcome ListingValue
after_said v (Order endian) = if v.is_begun then Err OrderNotFirst else Ok (with_order v endian)
after_said v (Section place said bytes) =
    if length bytes == said then (if get_or v.is_taken place false then Err Twice else Ok (with_section v place bytes))
    else Err WrongLength

-- what is passed over changes nothing
abbrev pub after_parsed : ListingValue → Option Line → Outcome ListingValue
after_parsed v None = Ok v
after_parsed v (Some said) = after_said v said

-- what there is after a line
abbrev pub after_line : ListingValue → List ℕ → Outcome ListingValue
after_line v line = parsed_line line >>= λ parsed. after_parsed v parsed

-- after lines, of which the first has this number; the first that is refused decides
abbrev pub after_lines : ℕ → ListingValue → List (List ℕ) → Result ListingValue (ℕ × Reason)
after_lines number v [] = Ok v
after_lines number v (line ∷ lines) = elim (after_line v line) [ Ok next ↦ after_lines (number + 1) next lines | Err reason ↦ Err (number, reason) ]

-- what the bytes of a listing say, cut into lines at each newline, which is 10, or the first line that is refused
unfoldable pub sections_of : List ℕ → Result ListingValue (ℕ × Reason)
sections_of text = after_lines 1 empty_listing (slice_split (λ b. b == 10) text)

-- a line is refused for the reason that its text has, and memory runs out only at one that isn't refused
abbrev pub RefusedFor : Outcome ListingValue → LineError → Type 0
RefusedFor outcome (Refused reason) = outcome ≡ Err reason
RefusedFor outcome NoMemory = IsOk outcome
