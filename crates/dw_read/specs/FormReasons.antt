-- Operands, attributes and rows as dw_base's grammar has them, with the reason where it reads nothing (DWARF 5, 7.5.2 to 7.5.6).
use Rattle.std.specs.Prelude.{ℕ, List, [], ◌∷◌, Bool, not, ◌==◌, Ok, Err, if◌then◌else◌}
use Rattle.dw_base.specs.Forms.{Operand, Absent, Number, Signed, Bytes, Text, Kind, Empty, Fixed, Uleb, Sleb, Block, UlebBlock, Zeroed, Indirect, kind_of, implicit_const}
use Rattle.dw_base.specs.Abbreviations.{Specification, Declaration, shape_of_code}
use Rattle.dw_base.specs.Entries.{ReadAttribute, ReadEntry, Mark, Open, Null}
use Rattle.dw_base.specs.declared.common.Encoding.{Encoding}
use Rattle.dw_base.specs.declared.constants.TheConstants.{DW_FORM_indirect}
use Rattle.dw_read.specs.Reading.{Read}
use Rattle.dw_read.specs.Reasons.{◌=>>◌, or_refuse, if_so, bytes_read, number_read, uleb_read, uleb16_read, sleb_read, text_read}
use Rattle.dw_read.specs.declared.error.ReadError.{ReadError}
use Rattle.dw_read.specs.declared.error.ReadError.TheVariants.{UnknownForm, UnknownAbbreviation}

abbrev pub unknown_form : ℕ → ReadError
unknown_form form = UnknownForm (record { 0 = form })

-- an operand that is laid out in one of the kinds but Indirect
unfoldable pub direct_read : Bool → Kind → Read Operand
direct_read big Empty bytes = Ok (Absent, bytes)
direct_read big (Fixed w) bytes = number_read big w bytes =>> λ x. Ok (Number x.0, x.1)
direct_read big Uleb bytes = uleb_read bytes =>> λ x. Ok (Number x.0, x.1)
direct_read big Sleb bytes = sleb_read bytes =>> λ x. Ok (Signed x.0, x.1)
direct_read big (Block w) bytes = number_read big w bytes =>> λ n. bytes_read n.0 n.1 =>> λ x. Ok (Bytes x.0, x.1)
direct_read big UlebBlock bytes = uleb_read bytes =>> λ n. bytes_read n.0 n.1 =>> λ x. Ok (Bytes x.0, x.1)
direct_read big Zeroed bytes = text_read bytes =>> λ x. Ok (Text x.0, x.1)
direct_read big Indirect bytes = Err (unknown_form DW_FORM_indirect.0)

-- an operand after the form in which it stands, which is unknown where it leads to another or has its constant in a declaration
unfoldable pub indirect_read : Bool → Encoding → Read (ℕ × Operand)
indirect_read big e bytes =
    uleb16_read bytes =>> λ form. if_so (not (form.0 == implicit_const)) (unknown_form form.0)
    (or_refuse (unknown_form form.0) (kind_of e form.0) =>> λ k. direct_read big k form.1 =>> λ x. Ok ((form.0, x.0), x.1))

abbrev pub kind_read : Bool → Encoding → ℕ → Kind → Read (ℕ × Operand)
kind_read big e form Indirect bytes = indirect_read big e bytes
kind_read big e form k bytes = direct_read big k bytes =>> λ x. Ok ((form, x.0), x.1)

-- the operand of a declared form, with the form in which it stands
unfoldable pub form_read : Bool → Encoding → ℕ → Read (ℕ × Operand)
form_read big e form bytes = or_refuse (unknown_form form) (kind_of e form) =>> λ k. kind_read big e form k bytes

-- an attribute of a declaration
unfoldable pub attribute_read : Bool → Encoding → Specification → Read ReadAttribute
attribute_read big e s bytes = form_read big e s.form bytes =>> λ x. Ok (record { name = s.name; form = x.0.0; constant = s.constant; operand = x.0.1 }, x.1)

-- the operands of a declaration's attributes, in its order
unfoldable pub attributes_read : Bool → Encoding → List Specification → Read (List ReadAttribute)
attributes_read big e [] bytes = Ok ([], bytes)
attributes_read big e (s ∷ ss) bytes = attribute_read big e s bytes =>> λ x. attributes_read big e ss x.1 =>> λ more. Ok (x.0 ∷ more.0, more.1)

-- a code that is in the table, and the operands of its declaration; or the code zero
unfoldable pub mark_read : Bool → Encoding → List Declaration → Read (Mark ReadEntry)
mark_read big e table bytes =
    uleb_read bytes =>> λ code. if code.0 == 0 then Ok (Null, code.1)
    else (or_refuse (UnknownAbbreviation code.0) (shape_of_code table code.0) =>> λ shape. attributes_read big e shape.attributes code.1 =>> λ x.
    Ok (Open (record { code = code.0; tag = shape.tag; has_children = shape.has_children; attributes = x.0 }), x.1))
