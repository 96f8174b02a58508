-- What a line of a listing says, or why it is refused.
use Rattle.std.specs.Prelude.{ℕ, ◌^◌, ◌<◌, List, [], ◌∷◌, Option, Ok, ok_or, ◌==◌, if◌then◌else◌, bytes_eq, codes, position}
use Rattle.dw_base.specs.SectionName.{section_name}
use Rattle.dw_base.specs.declared.section_id.SectionId.{SectionId}
use Rattle.dw_base.specs.declared.section_id.SectionId.TheVariants.{DebugAbbrev, DebugStr, DebugLineStr, DebugLine, DebugRanges, DebugRngLists, DebugLoc, DebugLocLists, DebugInfo, DebugFrame, EhFrame, DebugAddr, DebugStrOffsets}
use Rattle.dw_ends.specs.declared.line.Line.{Line}
use Rattle.dw_ends.specs.declared.line.Line.TheVariants.{Order, Section}
use Rattle.dw_ends.specs.declared.reason.Reason.TheVariants.{UnknownWord}
use Rattle.dw_ends.specs.Fields.{Fields, Outcome, ◌>>=◌, line_fields, said_by, next_field, number_field, byte_order_field, hex_field, end_of_fields}

-- the sections that a listing may have, each at its place: those that are written, and two that are only read
abbrev pub listed_sections : List SectionId
listed_sections =
    DebugAbbrev ∷ DebugStr ∷ DebugLineStr ∷ DebugLine ∷ DebugRanges ∷ DebugRngLists ∷ DebugLoc ∷ DebugLocLists ∷ DebugInfo
    ∷ DebugFrame ∷ EhFrame ∷ DebugAddr ∷ DebugStrOffsets ∷ []

-- the place of the section of this name
abbrev pub place_of : List ℕ → Option ℕ
place_of name = position (λ id. bytes_eq (section_name id) name) listed_sections

-- the bytes of a section of this length, and the fields after them; where the length is 0, the field may be missing
abbrev pub bytes_field : ℕ → Fields → Outcome (List ℕ × Fields)
bytes_field length [] = if length == 0 then Ok ([], []) else hex_field []
bytes_field length (field ∷ fields) = hex_field (field ∷ fields)

-- the fields after `order`: the byte order
abbrev pub order_of : Fields → Outcome Line
order_of fields = do
  (endian, fields) ← byte_order_field fields
  _ ← end_of_fields fields
  Ok (Order endian)

-- the fields after a section's name: its length and its bytes
abbrev pub section_of : ℕ → Fields → Outcome Line
section_of place fields = do
  (length, fields) ← number_field (2 ^ 64) fields
  (bytes, fields) ← bytes_field length fields
  _ ← end_of_fields fields
  Ok (Section place length bytes)

-- a section's name, and the fields after it
abbrev pub named_section : List ℕ → Fields → Outcome Line
named_section name fields = do
  place ← ok_or (place_of name) UnknownWord
  section_of place fields

-- what a line's fields say, from the first on
abbrev pub line_of : Fields → Outcome Line
line_of fields = do
  (word, fields) ← next_field fields
  if bytes_eq word (codes "order") then order_of fields else named_section word fields

-- what a line says
unfoldable pub parsed_line : List ℕ → Outcome (Option Line)
parsed_line line = line_fields line >>= said_by line_of

-- a section is one of those that a listing may have
abbrev pub HasPlace : Line → Type 0
HasPlace (Order endian) = Unit {0}
HasPlace (Section place length bytes) = place < 13
