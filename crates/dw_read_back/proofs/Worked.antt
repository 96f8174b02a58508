-- What written operations are read as, put down by hand.
use Rattle.std.proofs.Common.{◌≡◌, ℕ, List, [], ◌∷◌, Option, Some, None, false, refl}
use Rattle.std.specs.Prelude.{◌==◌, ◌+◌, if◌then◌else◌, pos, negsuc}
use Rattle.dw_base.specs.Numbers.{num}
use Rattle.dw_base.specs.Leb128.{uleb, uleb_groups}
use Rattle.dw_base.specs.declared.address.Address.TheVariants as addresses
use Rattle.dw_base.specs.declared.address.DebugInfoRef.TheVariants as refs
use Rattle.dw_base.specs.declared.common.Encoding.{Encoding}
use Rattle.dw_base.specs.declared.common.Format.TheVariants.{Dwarf32}
use Rattle.dw_writer.specs.Texts.{num_text, followed}
use Rattle.dw_writer.specs.SignedNumbers.{signed_num}
use Rattle.dw_writer.specs.SectionTexts.{bytes_text}
use Rattle.dw_writer.specs.Drafts.{then_draft}
use Rattle.dw_expr.specs.Trees.{Node, plain, entry_value, tree_of, Raw, Simple, Address, UnsignedConstant, Skip, Branch, CallRef, Convert, RegisterOffset, Piece}
use Rattle.dw_sources.specs.Operations.{Operation}
use Rattle.dw_sources.specs.Operations as read
use Rattle.dw_read_back.specs.ReadAs.{expression_as, is_read}

abbrev five : Encoding
five = record { address_size = 4; format = Dwarf32; version = 5 }

-- the first entry of the unit stands at 11, and each entry in .debug_info 256 behind its number
abbrev places : ℕ → Option ℕ
places i = if i == 0 then Some 11 else None

-- a symbol is 0x1000
abbrev read_of : List Node → Option (List Operation)
read_of ns = expression_as five places (λ u i. Some (256 + i)) false (record { starts = []; own_start = 0; symbols = 0x1000 ∷ [] }) ns

-- two branches: forward over three bytes, and back over nine
branches : read_of (plain (Simple (record { 0 = 0x96 })) ∷ plain (Skip (Some 3)) ∷ plain (UnsignedConstant 300) ∷ plain (Branch (Some 1)) ∷ [])
    ≡ Some (read.Simple 0x96 ∷ read.Skip (pos 3) ∷ read.UnsignedConstant 300 ∷ read.Branch (negsuc 8) ∷ [])
unfolding then_draft uleb uleb_groups
branches = refl

-- codes alone: DW_OP_lit31, DW_OP_reg2, DW_OP_over
codes_alone : read_of (plain (Simple (record { 0 = 0x4f })) ∷ plain (Simple (record { 0 = 0x52 })) ∷ plain (Simple (record { 0 = 0x14 })) ∷ [])
    ≡ Some (read.UnsignedConstant 31 ∷ read.Register 2 ∷ read.Pick 1 ∷ [])
codes_alone = refl

-- an address of a symbol, a register with an offset, and entries by their places
numbers : read_of (plain (Address (addresses.Symbol 0 (negsuc 15))) ∷ plain (RegisterOffset (record { 0 = 7 }) (negsuc 7)) ∷ plain (Convert (Some (record { 0 = 0 }))) ∷ plain (CallRef (refs.Entry (record { 0 = 0 }) (record { 0 = 2 }))) ∷ [])
    ≡ Some (read.Address 0xff0 ∷ read.RegisterOffset 7 (negsuc 7) ∷ read.Convert (Some 11) ∷ read.CallRef 258 ∷ [])
numbers = refl

-- an expression within an operation: DW_OP_reg5, and a branch to its end
within : read_of (entry_value (tree_of (plain (Simple (record { 0 = 0x55 })) ∷ plain (Skip (Some 2)) ∷ [])) ∷ []) ≡ Some (read.EntryValue (0x55 ∷ 0x2f ∷ 0 ∷ 0 ∷ []) ∷ [])
unfolding then_draft num num_text followed bytes_text signed_num
within = refl

-- what is set apart: raw bytes, the code of an operation with an operand, and a piece of 2^61 bytes
raw : is_read (plain (Raw (0x96 ∷ []))) ≡ false
raw = refl

incomplete : is_read (plain (Simple (record { 0 = 0x23 }))) ≡ false
incomplete = refl

long : is_read (plain (Piece 0x2000_0000_0000_0000)) ≡ false
long = refl
