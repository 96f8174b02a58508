-- What is written for values, whatever their forms are called.
use Rattle.std.specs.Prelude.{ℕ, ◌+◌, ◌<◌, ◌^◌, ◌+ℤ◌, Bool, true, false, not, ◌==◌, List, [], ◌∷◌, length, Option, Some, None, is_none, ℤ, pos, negsuc, slice_get, IsTrue, ⊤}
use Rattle.std.specs.List.{list_any}
use Rattle.dw_base.specs.Numbers.{◌>>=◌, when, word_of, fits}
use Rattle.dw_base.specs.Leb128.{uleb, sleb, fits_i64}
use Rattle.dw_base.specs.Forms.{Operand, Absent, Number, Signed, Bytes, Text, Kind, Empty, Fixed, Uleb, Sleb, UlebBlock, Zeroed, info_place_of}
use Rattle.dw_base.specs.declared.address.Address.{Address as TargetAddress}
use Rattle.dw_base.specs.declared.address.Address.TheVariants as addresses
use Rattle.dw_base.specs.declared.address.DebugInfoRef.{DebugInfoRef as InfoRef}
use Rattle.dw_base.specs.declared.address.DebugInfoRef.TheVariants as refs
use Rattle.dw_base.specs.declared.common.Encoding.{Encoding}
use Rattle.dw_base.specs.declared.error.Error.{Error}
use Rattle.dw_base.specs.declared.error.Error.TheVariants as errors
use Rattle.dw_base.specs.declared.section_id.SectionId.{SectionId}
use Rattle.dw_writer.specs.Causes.{offset_fits}
use Rattle.dw_writer.specs.Drafts.{Info, shifted}
use Rattle.dw_writer.specs.Layout.{start_of}
use Rattle.dw_writer.specs.declared.fixup.DebugInfoFixup.{DebugInfoFixup}
use Rattle.dw_expr.specs.Trees.{Node}
use Rattle.dw_expr.specs.Spelling.{expression_draft, expression_size}
use Rattle.dw_expr.specs.Causes.{nodes_unplaced, expression_fails}
use Rattle.dw_entries.specs.Targets.{Targets, UnitTargets}

-- What stands for a value in an entry, by how it is laid out (DWARF 5, 7.5.5).
pub data Content : Type 0 where
  -- no bytes at all
  Nothing : Content
  -- a number of so many bytes
  Plain : ℕ → ℕ → Content
  -- a number of sixteen bytes
  Wide : ℕ → Content
  -- a number in LEB128, unsigned or signed
  Leb : ℕ → Content
  SignedLeb : ℤ → Content
  -- bytes after their length in ULEB, and bytes closed by a zero
  Block : List ℕ → Content
  -- an expression after its length in ULEB
  Expression : List Node → Content
  Closed : List ℕ → Content
  -- an address of the target
  Target : TargetAddress → Content
  -- an offset into a section
  Offset : SectionId → ℕ → Content
  -- the place in a section of what a table has there under a number
  InTable : SectionId → ℕ → Content
  -- the index under which a table has something in a section, in unsigned LEB128
  TableIndex : SectionId → ℕ → Content
  -- the place in a section where the unit's own part of it begins
  OwnPart : SectionId → Content
  -- the number of a file, in unsigned LEB128
  File : ℕ → Content
  -- the place in the unit of an entry
  EntryPlace : ℕ → Content
  -- the place in .debug_info of an entry of any unit
  InfoPlace : InfoRef → Content

-- a number, where it fits so many bytes
abbrev pub number_in : ℕ → ℕ → Option Operand
number_in w n = when (fits w n) (Some (Number n))

-- a text has a zero byte
abbrev pub has_zero : List ℕ → Bool
has_zero t = list_any (λ b. b == 0) t

-- a whole number that isn't below zero
abbrev pub natural : ℤ → Option ℕ
natural (pos n) = Some n
natural (negsuc n) = None

-- a symbol's address is its value plus an addend
abbrev pub address_in : Targets → TargetAddress → Option ℕ
address_in t (addresses.Constant n) = Some n
address_in t (addresses.Symbol s a) = slice_get t.layout.symbols s >>= λ v. natural (a +ℤ pos v)

-- an entry's place in .debug_info; one of another object has none
abbrev pub info_in : Info → InfoRef → Option ℕ
info_in info (refs.Symbol s) = None
info_in info (refs.Entry u i) = info u.0 i.0

-- bytes whose number fits 64 bits
abbrev pub bytes_in : List ℕ → Option Operand
bytes_in xs = when (fits 8 (length xs)) (Some (Bytes xs))

-- the operand, if each number in it fits and what it leads to is there
abbrev pub content_operand : Bool → Encoding → Targets → Content → Option Operand
content_operand big e t Nothing = Some Absent
content_operand big e t (Plain w n) = number_in w n
content_operand big e t (Wide n) = Some (Number n)
content_operand big e t (Leb n) = Some (Number n)
content_operand big e t (SignedLeb z) = Some (Signed z)
content_operand big e t (Block xs) = Some (Bytes xs)
content_operand big e t (Expression ns) = (expression_draft e t.place ns).text t.info big t.layout >>= bytes_in
content_operand big e t (Closed s) = when (not (has_zero s)) (Some (Text s))
content_operand big e t (Target a) = address_in t a >>= number_in e.address_size
content_operand big e t (Offset section n) = number_in (word_of e.format) (n + start_of t.layout section)
content_operand big e t (InTable section i) =
    t.tables.part section i >>= λ n. number_in (word_of e.format) (n + start_of t.layout section)
content_operand big e t (TableIndex section i) = t.tables.part section i >>= λ n. Some (Number i)
content_operand big e t (OwnPart section) =
    t.tables.own section >>= λ n. number_in (word_of e.format) (n + start_of t.layout section)
content_operand big e t (File n) = number_in 8 n
content_operand big e t (EntryPlace i) = t.place i >>= number_in (word_of e.format)
content_operand big e t (InfoPlace r) = info_in t.info r >>= number_in (info_place_of e)

-- the kind of its form
abbrev pub content_kind : Encoding → Content → Kind
content_kind e Nothing = Empty
content_kind e (Plain w n) = Fixed w
content_kind e (Wide n) = Fixed 16
content_kind e (Leb n) = Uleb
content_kind e (SignedLeb z) = Sleb
content_kind e (Block xs) = UlebBlock
content_kind e (Expression ns) = UlebBlock
content_kind e (Closed s) = Zeroed
content_kind e (Target a) = Fixed e.address_size
content_kind e (Offset section n) = Fixed (word_of e.format)
content_kind e (InTable section i) = Fixed (word_of e.format)
content_kind e (TableIndex section i) = Uleb
content_kind e (OwnPart section) = Fixed (word_of e.format)
content_kind e (File n) = Uleb
content_kind e (EntryPlace i) = Fixed (word_of e.format)
content_kind e (InfoPlace r) = Fixed (info_place_of e)

-- bytes and their number before them in ULEB
abbrev pub counted : ℕ → ℕ
counted n = length (uleb n) + n

-- the bytes of it, where each entry has its place
abbrev pub content_size : Encoding → (ℕ → Option ℕ) → Content → ℕ
content_size e place Nothing = 0
content_size e place (Plain w n) = w
content_size e place (Wide n) = 16
content_size e place (Leb n) = length (uleb n)
content_size e place (SignedLeb z) = length (sleb z)
content_size e place (Block xs) = counted (length xs)
content_size e place (Expression ns) = counted (expression_size e place ns)
content_size e place (Closed s) = length s + 1
content_size e place (Target a) = e.address_size
content_size e place (Offset section n) = word_of e.format
content_size e place (InTable section i) = word_of e.format
content_size e place (TableIndex section i) = length (uleb i)
content_size e place (OwnPart section) = word_of e.format
content_size e place (File n) = length (uleb n)
content_size e place (EntryPlace i) = word_of e.format
content_size e place (InfoPlace r) = info_place_of e

-- a place in .debug_info is filled in once every unit stands
abbrev pub info_holes : ℕ → InfoRef → List DebugInfoFixup
info_holes w (refs.Symbol s) = []
info_holes w (refs.Entry u i) = record { offset = 0; size = w; unit = u; entry = i } ∷ []

-- the places in it that are left open
abbrev pub content_holes : Encoding → (ℕ → Option ℕ) → Content → List DebugInfoFixup
content_holes e place (InfoPlace r) = info_holes (info_place_of e) r
content_holes e place (Expression ns) =
    let d = expression_draft e place ns in shifted (length (uleb d.size)) d.holes
content_holes e place c = []

-- the numbers of it are those of their types
abbrev pub IsContentRanged : Content → Type 0
IsContentRanged (Wide n) = n < 2 ^ 128
IsContentRanged (Leb n) = n < 2 ^ 64
IsContentRanged (SignedLeb z) = IsTrue (fits_i64 z)
IsContentRanged (Block xs) = length xs < 2 ^ 64
IsContentRanged (TableIndex section i) = i < 2 ^ 64
IsContentRanged c = ⊤

-- Faults, a line for each error

-- a number has no room
abbrev pub number_fails : ℕ → ℕ → Error → Bool
number_fails w n errors.ValueTooLarge = not (fits w n)
number_fails w n err = false

-- a text has a zero byte
abbrev pub text_fails : List ℕ → Error → Bool
text_fails s errors.InvalidAttributeValue = has_zero s
text_fails s err = false

-- a constant address has no room, and a plain writer takes no symbol
abbrev pub address_fails : ℕ → Bool → TargetAddress → Error → Bool
address_fails w is_plain (addresses.Constant n) err = number_fails w n err
address_fails w is_plain (addresses.Symbol s a) errors.InvalidAddress = is_plain
address_fails w is_plain (addresses.Symbol s a) err = false

-- an offset has no room: a plain writer puts it in its place, another in a signed addend
abbrev pub offset_fails : ℕ → Bool → ℕ → Error → Bool
offset_fails w is_plain n errors.ValueTooLarge = not (offset_fits is_plain w n)
offset_fails w is_plain n err = false

-- an entry that is named has no place, or a table has nothing under an index
abbrev pub reference_fails : Option ℕ → Error → Bool
reference_fails place errors.InvalidReference = is_none place
reference_fails place err = false

-- nothing stands under a number in a table, or its place has no room
abbrev pub table_fails : ℕ → Bool → Option ℕ → Error → Bool
table_fails w is_plain None errors.InvalidReference = true
table_fails w is_plain (Some n) err = offset_fails w is_plain n err
table_fails w is_plain None err = false

-- the unit has no part of its own in a section, or its place has no room
abbrev pub own_fails : ℕ → Bool → Option ℕ → Error → Bool
own_fails w is_plain None errors.InvalidAttributeValue = true
own_fails w is_plain (Some n) err = offset_fails w is_plain n err
own_fails w is_plain None err = false

-- an entry of another object is named
abbrev pub info_fails : InfoRef → Error → Bool
info_fails (refs.Symbol s) errors.InvalidReference = true
info_fails r err = false

-- why what is written is refused, where operands lead to these targets
abbrev pub content_fails : Encoding → UnitTargets → Bool → Content → Error → Bool
content_fails e u is_plain (Plain w n) err = number_fails w n err
content_fails e u is_plain (Expression ns) err = expression_fails e (Some u.place) true is_plain ns err
content_fails e u is_plain (Closed s) err = text_fails s err
content_fails e u is_plain (Target a) err = address_fails e.address_size is_plain a err
content_fails e u is_plain (Offset section n) err = offset_fails (word_of e.format) is_plain n err
content_fails e u is_plain (InTable section i) err = table_fails (word_of e.format) is_plain (u.tables.part section i) err
content_fails e u is_plain (TableIndex section i) err = reference_fails (u.tables.part section i) err
content_fails e u is_plain (OwnPart section) err = own_fails (word_of e.format) is_plain (u.tables.own section) err
content_fails e u is_plain (File n) err = number_fails 8 n err
content_fails e u is_plain (EntryPlace i) err = reference_fails (u.place i) err
content_fails e u is_plain (InfoPlace r) err = info_fails r err
content_fails e u is_plain c err = false

-- its size hangs on an entry that has no place yet
abbrev pub content_unplaced : Encoding → (ℕ → Option ℕ) → Content → Error → Bool
content_unplaced e place (Expression ns) err = nodes_unplaced e (Some place) ns err
content_unplaced e place c err = false
