-- The shortest spellings of units, of abbreviation tables and of what stands in them (DWARF 5, 7.5.1 to 7.5.6).
use Rattle.std.specs.Prelude.{ℕ, ◌+◌, List, [], ◌∷◌, ◌++◌, length, Option, Some, None, Bool, true, false, ◌==◌, if◌then◌else◌, ℤ}
use Rattle.std.specs.List.{flat_map}
use Rattle.dw_base.specs.Numbers.{num, word_of, escape_of, length_size}
use Rattle.dw_base.specs.Leb128.{uleb, sleb}
use Rattle.dw_base.specs.Forms.{Operand, Number, Signed, Bytes, Text, Kind, Fixed, Uleb, Sleb, Block, UlebBlock, Zeroed, kind_of}
use Rattle.dw_base.specs.Abbreviations.{Specification, Shape, Declaration}
use Rattle.dw_base.specs.Headers.{Header}
use Rattle.dw_base.specs.Entries.{ReadAttribute, ReadEntry, Mark, Open, Null, Row, next_depth}
use Rattle.dw_base.specs.Info.{ReadUnit}
use Rattle.dw_base.specs.declared.common.Encoding.{Encoding}
use Rattle.dw_base.specs.declared.constants.TheConstants.{DW_UT_compile}

-- what follows the version in the header of a compile unit, whose type stands there from version 5 on
abbrev pub after_version : Bool → Encoding → ℕ → List ℕ
after_version big e table =
    if e.version == 5 then DW_UT_compile.0 ∷ e.address_size ∷ num big (word_of e.format) table
    else num big (word_of e.format) table ++ e.address_size ∷ []

-- what follows the length in the header of a compile unit
unfoldable pub fields_bytes : Bool → Encoding → ℕ → List ℕ
fields_bytes big e table = num big 2 e.version ++ after_version big e table

-- the bytes of those fields
abbrev pub fields_size : Encoding → ℕ
fields_size e = if e.version == 5 then 4 + word_of e.format else 3 + word_of e.format

-- the bytes of a compile unit's header
abbrev pub header_size : Encoding → ℕ
header_size e = length_size e.format + fields_size e

-- what a length counts, after that length
abbrev pub counted : Bool → Encoding → List ℕ → List ℕ
counted big e content = escape_of e.format ++ (num big (word_of e.format) (length content) ++ content)

-- a compile unit with its table's place and what follows its header
unfoldable pub unit_bytes : Bool → Encoding → ℕ → List ℕ → List ℕ
unit_bytes big e table body = counted big e (fields_bytes big e table ++ body)

-- the type that a header tells from version 5 on, that of a compile unit (DWARF 5, table 7.2)
abbrev pub unit_type_of : ℕ → Option ℕ
unit_type_of version = if version == 5 then Some DW_UT_compile.0 else None

-- the header of a compile unit
abbrev pub compile_header : Encoding → ℕ → Header
compile_header e table = record {
  encoding = e;
  unit_type = unit_type_of e.version;
  table_offset = table;
  identity = None;
  type_offset = None;
}

-- the constant that a declaration holds for an attribute
abbrev pub constant_bytes : Option ℤ → List ℕ
constant_bytes None = []
constant_bytes (Some z) = sleb z

-- an attribute in a declaration
abbrev pub specification_bytes : Specification → List ℕ
specification_bytes s = uleb s.name ++ (uleb s.form ++ constant_bytes s.constant)

-- the byte that says whether an entry has children
abbrev pub children_byte : Bool → ℕ
children_byte true = 1
children_byte false = 0

-- what a declaration says after its code
abbrev pub shape_bytes : Shape → List ℕ
shape_bytes s = uleb s.tag ++ children_byte s.has_children ∷ (flat_map specification_bytes s.attributes ++ 0 ∷ 0 ∷ [])

abbrev pub declaration_bytes : Declaration → List ℕ
declaration_bytes d = uleb d.code ++ shape_bytes d.shape

-- a table, which the code zero closes
abbrev pub table_bytes : List Declaration → List ℕ
table_bytes ds = flat_map declaration_bytes ds ++ 0 ∷ []

-- an operand that is laid out in a kind; none is spelled by way of a second form
abbrev pub kind_bytes : Bool → Kind → Operand → List ℕ
kind_bytes big (Fixed w) (Number n) = num big w n
kind_bytes big Uleb (Number n) = uleb n
kind_bytes big Sleb (Signed z) = sleb z
kind_bytes big (Block w) (Bytes xs) = num big w (length xs) ++ xs
kind_bytes big UlebBlock (Bytes xs) = uleb (length xs) ++ xs
kind_bytes big Zeroed (Text t) = t ++ 0 ∷ []
kind_bytes big k o = []

-- an operand that is laid out as its form says, if that is a form
abbrev pub operand_bytes : Bool → Option Kind → Operand → List ℕ
operand_bytes big None o = []
operand_bytes big (Some k) o = kind_bytes big k o

abbrev pub attribute_bytes : Bool → Encoding → ReadAttribute → List ℕ
attribute_bytes big e a = operand_bytes big (kind_of e a.form) a.operand

-- an entry, or the zero that closes a list of children
abbrev pub mark_bytes : Bool → Encoding → Mark ReadEntry → List ℕ
mark_bytes big e (Open x) = uleb x.code ++ flat_map (attribute_bytes big e) x.attributes
mark_bytes big e Null = 0 ∷ []

-- what stands in a unit after its header
abbrev pub body_bytes : Bool → Encoding → List (Mark ReadEntry) → List ℕ
body_bytes big e ms = flat_map (mark_bytes big e) ms

-- the rows of marks that stand from a place on, at a depth
unfoldable pub rows_of : Bool → Encoding → ℕ → ℕ → List (Mark ReadEntry) → List Row
rows_of big e from depth [] = []
rows_of big e from depth (m ∷ ms) =
    let to = from + length (mark_bytes big e m) in
    record { from = from; depth = depth; mark = m; to = to } ∷ rows_of big e to (next_depth m depth) ms

-- a compile unit as it is read at a place
abbrev pub read_unit : Bool → Encoding → ℕ → ℕ → List Declaration → List (Mark ReadEntry) → ReadUnit
read_unit big e from place table ms =
    record { from = from; header = compile_header e place; table = table; rows = rows_of big e (header_size e) 0 ms }
