-- Lines that tell live ranges, and those of a listing behind them: what they say, or where they are refused.
use Rattle.std.specs.Prelude.{◌≡◌, ℕ, ◌+◌, ◌^◌, List, [], ◌∷◌, ◌++◌, Option, Some, None, Result, Ok, Err, ◌==◌, if◌then◌else◌, nat_lt, bytes_eq, codes}
use Rattle.std.specs.List.{slice_split}
use Rattle.dw_ends.specs.Fields.{Fields, Outcome, ◌>>=◌, end_of_fields, line_fields, next_field, number_field}
use Rattle.dw_ends.specs.Sections.{ListingValue, after_line, empty_listing}
use Rattle.dw_ends.specs.declared.line_error.LineError.{LineError}
use Rattle.dw_ends.specs.declared.line_error.LineError.TheVariants.{Refused, NoMemory}
use Rattle.dw_ends.specs.declared.reason.Reason.{Reason}
use Rattle.dw_ends.specs.declared.reason.Reason.TheVariants.{EmptyRange, LiveNotFirst}
use Rattle.dw_entry_ranges.specs.declared.live.LiveRange.{LiveRange}
use Rattle.dw_live_code.specs.declared.input_reader.PruneInput.{PruneInput}

-- the live ranges in the order of their lines, and what the lines of the listing have said
pub record InputValue : Type 0 where
  pub live : List LiveRange
  pub listing : ListingValue

-- before the first line
abbrev pub empty_input : InputValue
empty_input = record { live = []; listing = empty_listing }

-- from a begin to before an end, where there are addresses
abbrev pub range_between : ℕ → ℕ → Outcome LiveRange
range_between begin end = if nat_lt begin end then Ok (record { begin = begin; end = end }) else Err EmptyRange

-- the fields behind the word: the begin and the end
abbrev pub live_of : Fields → Outcome LiveRange
live_of fields = do
  (begin, fields) ← number_field (2 ^ 64) fields
  (end, fields) ← number_field (2 ^ 64) fields
  _ ← end_of_fields fields
  range_between begin end

-- a live range stands before the lines of the listing
abbrev pub with_live : InputValue → LiveRange → Outcome InputValue
with_live v range = if v.listing.is_begun then Err LiveNotFirst else Ok (record v { live = v.live ++ range ∷ [] })

abbrev pub after_live : InputValue → Fields → Outcome InputValue
after_live v fields = live_of fields >>= λ range. with_live v range

-- what a line changes that is one of the listing
abbrev pub after_listing_line : InputValue → List ℕ → Outcome InputValue
after_listing_line v line = after_line v.listing line >>= λ listing. Ok (record v { listing = listing })

abbrev pub after_word : InputValue → List ℕ → List ℕ × Fields → Outcome InputValue
after_word v line x = if bytes_eq x.0 (codes "live") then after_live v x.1 else after_listing_line v line

-- what is passed over changes nothing
abbrev pub after_fields : InputValue → List ℕ → Option Fields → Outcome InputValue
after_fields v line None = Ok v
after_fields v line (Some fields) = next_field fields >>= after_word v line

-- what there is after a line
abbrev pub after_input_line : InputValue → List ℕ → Outcome InputValue
after_input_line v line = line_fields line >>= after_fields v line

-- after lines, of which the first has this number; the first that is refused decides
abbrev pub after_input_lines : ℕ → InputValue → List (List ℕ) → Result InputValue (ℕ × Reason)
after_input_lines number v [] = Ok v
after_input_lines number v (line ∷ lines) = elim (after_input_line v line) [ Ok next ↦ after_input_lines (number + 1) next lines | Err reason ↦ Err (number, reason) ]

-- what the bytes of an input say, cut into lines at each newline, which is 10, or the first line that is refused
unfoldable pub input_of : List ℕ → Result InputValue (ℕ × Reason)
input_of text = after_input_lines 1 empty_input (slice_split (λ b. b == 10) text)

-- a line is refused for the reason that its text has, or memory ran out
abbrev pub LineRefused : Outcome InputValue → LineError → Type 0
LineRefused outcome (Refused reason) = outcome ≡ Err reason
LineRefused outcome NoMemory = Unit {0}

-- an input has the live ranges, the byte order and the sections that its bytes say
pub record IsInput (bytes : List ℕ) (i : PruneInput) : Type 0 where
  pub value : InputValue
  pub says : input_of bytes ≡ Ok value
  pub live : i.live.items ≡ value.live
  pub endian : i.listing.endian ≡ value.listing.endian
  pub sections : i.listing.sections.items ≡ value.listing.sections
