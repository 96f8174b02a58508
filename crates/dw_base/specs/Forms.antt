-- Operands by their forms (DWARF 5, 7.5.6; 7.5.5 for the classes).
use Rattle.std.specs.Prelude.{ℕ, zero, suc, Bool, not, ◌==◌, List, [], ◌∷◌, Option, Some, None, ℤ, if◌then◌else◌}
use Rattle.dw_base.specs.Numbers.{Parser, ◌>>=◌, when, bytes_at, number_at, word_of}
use Rattle.dw_base.specs.Leb128.{uleb_at, uleb16_at, sleb_at}
use Rattle.dw_base.specs.declared.common.Encoding.{Encoding}
use Rattle.dw_base.specs.declared.constants.TheConstants.{DW_FORM_addr, DW_FORM_block2, DW_FORM_block4, DW_FORM_data2, DW_FORM_data4, DW_FORM_data8, DW_FORM_string, DW_FORM_block, DW_FORM_block1, DW_FORM_data1, DW_FORM_flag, DW_FORM_sdata, DW_FORM_strp, DW_FORM_udata, DW_FORM_ref_addr, DW_FORM_ref1, DW_FORM_ref2, DW_FORM_ref4, DW_FORM_ref8, DW_FORM_ref_udata, DW_FORM_indirect, DW_FORM_sec_offset, DW_FORM_exprloc, DW_FORM_flag_present, DW_FORM_strx, DW_FORM_addrx, DW_FORM_ref_sup4, DW_FORM_strp_sup, DW_FORM_data16, DW_FORM_line_strp, DW_FORM_ref_sig8, DW_FORM_implicit_const, DW_FORM_loclistx, DW_FORM_rnglistx, DW_FORM_ref_sup8, DW_FORM_strx1, DW_FORM_strx2, DW_FORM_strx3, DW_FORM_strx4, DW_FORM_addrx1, DW_FORM_addrx2, DW_FORM_addrx3, DW_FORM_addrx4}

-- what stands for an attribute in an entry
pub data Operand : Type 0 where
  Absent : Operand
  Number : ℕ → Operand
  Signed : ℤ → Operand
  Bytes : List ℕ → Operand
  Text : List ℕ → Operand

-- how an operand is laid out
pub data Kind : Type 0 where
  -- no bytes at all
  Empty : Kind
  -- a number of so many bytes
  Fixed : ℕ → Kind
  Uleb : Kind
  Sleb : Kind
  -- bytes after their length, which is a number of so many bytes
  Block : ℕ → Kind
  -- bytes after their length in ULEB
  UlebBlock : Kind
  -- bytes closed by a zero
  Zeroed : Kind
  -- a form, and its operand
  Indirect : Kind

-- the form DW_FORM_implicit_const, whose constant stands in the declaration (DWARF 5, 7.5.3)
abbrev pub implicit_const : ℕ
implicit_const = DW_FORM_implicit_const.0

-- the width of a place in .debug_info, which version 2 gives that of an address (DWARF 2, 7.5.4)
abbrev pub info_place_of : Encoding → ℕ
info_place_of e = if e.version == 2 then e.address_size else word_of e.format

-- the forms of versions 2 to 5
abbrev pub kinds : Encoding → List (ℕ × Kind)
kinds e =
    (DW_FORM_addr.0, Fixed e.address_size)
    ∷ (DW_FORM_block2.0, Block 2)
    ∷ (DW_FORM_block4.0, Block 4)
    ∷ (DW_FORM_data2.0, Fixed 2)
    ∷ (DW_FORM_data4.0, Fixed 4)
    ∷ (DW_FORM_data8.0, Fixed 8)
    ∷ (DW_FORM_string.0, Zeroed)
    ∷ (DW_FORM_block.0, UlebBlock)
    ∷ (DW_FORM_block1.0, Block 1)
    ∷ (DW_FORM_data1.0, Fixed 1)
    ∷ (DW_FORM_flag.0, Fixed 1)
    ∷ (DW_FORM_sdata.0, Sleb)
    ∷ (DW_FORM_strp.0, Fixed (word_of e.format))
    ∷ (DW_FORM_udata.0, Uleb)
    ∷ (DW_FORM_ref_addr.0, Fixed (info_place_of e))
    ∷ (DW_FORM_ref1.0, Fixed 1)
    ∷ (DW_FORM_ref2.0, Fixed 2)
    ∷ (DW_FORM_ref4.0, Fixed 4)
    ∷ (DW_FORM_ref8.0, Fixed 8)
    ∷ (DW_FORM_ref_udata.0, Uleb)
    ∷ (DW_FORM_indirect.0, Indirect)
    ∷ (DW_FORM_sec_offset.0, Fixed (word_of e.format))
    ∷ (DW_FORM_exprloc.0, UlebBlock)
    ∷ (DW_FORM_flag_present.0, Empty)
    ∷ (DW_FORM_strx.0, Uleb)
    ∷ (DW_FORM_addrx.0, Uleb)
    ∷ (DW_FORM_ref_sup4.0, Fixed 4)
    ∷ (DW_FORM_strp_sup.0, Fixed (word_of e.format))
    ∷ (DW_FORM_data16.0, Fixed 16)
    ∷ (DW_FORM_line_strp.0, Fixed (word_of e.format))
    ∷ (DW_FORM_ref_sig8.0, Fixed 8)
    ∷ (DW_FORM_implicit_const.0, Empty)
    ∷ (DW_FORM_loclistx.0, Uleb)
    ∷ (DW_FORM_rnglistx.0, Uleb)
    ∷ (DW_FORM_ref_sup8.0, Fixed 8)
    ∷ (DW_FORM_strx1.0, Fixed 1)
    ∷ (DW_FORM_strx2.0, Fixed 2)
    ∷ (DW_FORM_strx3.0, Fixed 3)
    ∷ (DW_FORM_strx4.0, Fixed 4)
    ∷ (DW_FORM_addrx1.0, Fixed 1)
    ∷ (DW_FORM_addrx2.0, Fixed 2)
    ∷ (DW_FORM_addrx3.0, Fixed 3)
    ∷ (DW_FORM_addrx4.0, Fixed 4)
    ∷ []

abbrev pub kind_among : ℕ → List (ℕ × Kind) → Option Kind
kind_among form [] = None
kind_among form (k ∷ ks) = if form == k.0 then Some k.1 else kind_among form ks

unfoldable pub kind_of : Encoding → ℕ → Option Kind
kind_of e form = kind_among form (kinds e)

-- the bytes before the first zero, which is passed too
unfoldable pub text_at : Parser (List ℕ)
text_at [] = None
text_at (zero ∷ bs) = Some ([], bs)
text_at (suc b ∷ bs) = text_at bs >>= λ x. Some (suc b ∷ x.0, x.1)

abbrev pub number_operand : Option (ℕ × List ℕ) → Option (Operand × List ℕ)
number_operand r = r >>= λ x. Some (Number x.0, x.1)

abbrev pub block_operand : Option (ℕ × List ℕ) → Option (Operand × List ℕ)
block_operand r = r >>= λ n. bytes_at n.0 n.1 >>= λ x. Some (Bytes x.0, x.1)

-- an operand that is laid out in one of the kinds but Indirect
unfoldable pub direct_at : Bool → Kind → Parser Operand
direct_at big Empty bytes = Some (Absent, bytes)
direct_at big (Fixed w) bytes = number_operand (number_at big w bytes)
direct_at big Uleb bytes = number_operand (uleb_at bytes)
direct_at big Sleb bytes = sleb_at bytes >>= λ x. Some (Signed x.0, x.1)
direct_at big (Block w) bytes = block_operand (number_at big w bytes)
direct_at big UlebBlock bytes = block_operand (uleb_at bytes)
direct_at big Zeroed bytes = text_at bytes >>= λ x. Some (Text x.0, x.1)
direct_at big Indirect bytes = None

-- an operand with the form in which it stands
abbrev pub in_form : ℕ → Option (Operand × List ℕ) → Option ((ℕ × Operand) × List ℕ)
in_form form r = r >>= λ x. Some ((form, x.0), x.1)

-- an operand after the form in which it stands; such a form leads to no other and has no constant in a declaration
abbrev pub indirect_at : Bool → Encoding → Parser (ℕ × Operand)
indirect_at big e bytes =
    uleb16_at bytes >>= λ form. when (not (form.0 == implicit_const)) (kind_of e form.0 >>= λ k. in_form form.0 (direct_at big k form.1))

abbrev pub kind_at : Bool → Encoding → ℕ → Kind → Parser (ℕ × Operand)
kind_at big e form Indirect bytes = indirect_at big e bytes
kind_at big e form k bytes = in_form form (direct_at big k bytes)

-- the operand of a declared form, with the form in which it stands: the declared one, or the one that indirect leads to
unfoldable pub form_at : Bool → Encoding → ℕ → Parser (ℕ × Operand)
form_at big e form bytes = kind_of e form >>= λ k. kind_at big e form k bytes
