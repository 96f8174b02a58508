-- What has a spelling.
use Rattle.std.specs.Prelude.{◌≡◌, ℕ, ◌^◌, ◌<◌, ◌≤◌, List, [], ◌∷◌, ◌++◌, length, map, Option, Some, None, Bool, true, false, ◌&&◌, ◌==◌, ℤ, IsTrue, ⊤}
use Rattle.std.specs.List.{All}
use Rattle.dw_base.specs.Numbers.{word_of, fits, length_fits, is_width}
use Rattle.dw_base.specs.Leb128.{fits_i64}
use Rattle.dw_base.specs.Forms.{Operand, Absent, Number, Signed, Bytes, Text, Kind, Empty, Fixed, Uleb, Sleb, Block, UlebBlock, Zeroed, implicit_const, kind_of}
use Rattle.dw_base.specs.Abbreviations.{Specification, Shape, Declaration, is_new_code, shape_of_code}
use Rattle.dw_base.specs.Entries.{ReadAttribute, ReadEntry, Mark, Open, Null, is_one_tree, children_of}
use Rattle.dw_base.specs.Spelling.{fields_bytes, body_bytes}
use Rattle.dw_base.specs.declared.common.Encoding.{Encoding}

-- whether a constant is asked for, and the constant
abbrev pub IsConstant : Bool → Option ℤ → Type 0
IsConstant true (Some z) = IsTrue (fits_i64 z)
IsConstant true None = ⊥
IsConstant false (Some z) = ⊥
IsConstant false None = ⊤

-- the form implicit_const alone has a constant
pub record IsSpecification (s : Specification) : Type 0 where
  pub name : 0 < s.name
  pub name_fits : s.name < 2 ^ 16
  pub form_fits : s.form < 2 ^ 16
  pub constant : IsConstant (s.form == implicit_const) s.constant

pub record IsDeclaration (d : Declaration) : Type 0 where
  pub code : 0 < d.code
  pub code_fits : d.code < 2 ^ 64
  pub tag : 0 < d.shape.tag
  pub tag_fits : d.shape.tag < 2 ^ 16
  pub attributes : All IsSpecification d.shape.attributes

-- no code is declared twice
abbrev pub codes_differ : List Declaration → Bool
codes_differ [] = true
codes_differ (d ∷ ds) = is_new_code d.code ds && codes_differ ds

pub record AreDeclarations (ds : List Declaration) : Type 0 where
  pub each : All IsDeclaration ds
  pub differ : IsTrue (codes_differ ds)

-- no byte is zero
abbrev pub IsText : List ℕ → Type 0
IsText t = All (λ b. 0 < b) t

-- the operands of a kind
abbrev pub KindFits : Kind → Operand → Type 0
KindFits Empty Absent = ⊤
KindFits (Fixed w) (Number n) = IsTrue (fits w n)
KindFits Uleb (Number n) = n < 2 ^ 64
KindFits Sleb (Signed z) = IsTrue (fits_i64 z)
KindFits (Block w) (Bytes xs) = IsTrue (fits w (length xs))
KindFits UlebBlock (Bytes xs) = length xs < 2 ^ 64
KindFits Zeroed (Text t) = IsText t
KindFits k o = ⊥

-- the operands of a form, if it is one
abbrev pub FormFits : Option Kind → Operand → Type 0
FormFits None o = ⊥
FormFits (Some k) o = KindFits k o

-- the form of an attribute has its operand
abbrev pub IsAttribute : Encoding → ReadAttribute → Type 0
IsAttribute e a = FormFits (kind_of e a.form) a.operand

abbrev pub specification_of : ReadAttribute → Specification
specification_of a = record { name = a.name; form = a.form; constant = a.constant }

-- what an entry's declaration says of it
abbrev pub shape_of : ReadEntry → Shape
shape_of x = record { tag = x.tag; has_children = x.has_children; attributes = map specification_of x.attributes }

-- an entry that the table declares
pub record IsEntry (e : Encoding) (table : List Declaration) (x : ReadEntry) : Type 0 where
  pub code : 0 < x.code
  pub code_fits : x.code < 2 ^ 64
  pub declared : shape_of_code table x.code ≡ Some (shape_of x)
  pub attributes : All (IsAttribute e) x.attributes

abbrev pub IsMark : Encoding → List Declaration → Mark ReadEntry → Type 0
IsMark e table (Open x) = IsEntry e table x
IsMark e table Null = ⊤

-- a compile unit that is one tree, with its table's place
pub record IsUnit (big : Bool) (e : Encoding) (place : ℕ) (table : List Declaration) (marks : List (Mark ReadEntry)) : Type 0 where
  pub version_from : 2 ≤ e.version
  pub version_to : e.version ≤ 5
  pub address_size : IsTrue (is_width e.address_size)
  pub place_fits : IsTrue (fits (word_of e.format) place)
  pub length_ok : IsTrue (length_fits e.format (length (fields_bytes big e place ++ body_bytes big e marks)))
  pub declarations : AreDeclarations table
  pub each : All (IsMark e table) marks
  pub tree : IsTrue (is_one_tree (map children_of marks))
