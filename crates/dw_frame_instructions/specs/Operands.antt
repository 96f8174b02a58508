-- The operands of call frame instructions, and how they are spelled (DWARF 5, 6.4.2 and 7.24).
use Rattle.std.specs.Prelude.{ℕ, Bool, false, List, None, ℤ}
use Rattle.dw_base.specs.Leb128.{uleb, sleb}
use Rattle.dw_base.specs.declared.common.Encoding.{Encoding}
use Rattle.dw_base.specs.declared.error.Error.{Error}
use Rattle.dw_writer.specs.Drafts.{Info}
use Rattle.dw_expr.specs.Trees.{Node}
use Rattle.dw_expr.specs.Causes.{expression_fails}
use Rattle.dw_expr.specs.Places.{place_by}
use Rattle.dw_expr.specs.Spelling.{expression_draft, expression_size}
use Rattle.dw_frame_instructions.specs.declared.operand.Operand.{Operand as Kept}
use Rattle.dw_frame_instructions.specs.declared.operand.Operand.TheVariants as kept
use Rattle.dw_frame_instructions.specs.Pieces.{Piece, nothing, bytes, both}
use Rattle.dw_frame_instructions.specs.Causes.{never}

-- nothing, a number in LEB128, or an expression behind its length
pub data Operand : Type 0 where
  Nothing : Operand
  Uleb : ℕ → Operand
  Sleb : ℤ → Operand
  Block : List Node → Operand

abbrev pub operand_in : Kept → Operand
operand_in kept.Nothing = Nothing
operand_in (kept.Uleb n) = Uleb n
operand_in (kept.Sleb z) = Sleb z
operand_in (kept.Block x) = Block x.now

-- no entry has a place here
abbrev pub nowhere : Info
nowhere unit entry = None

-- an expression that names no entries
abbrev pub expression_piece : Encoding → List Node → Piece
expression_piece e ns = record
    { size = (expression_draft e (place_by None) ns).size; text = (expression_draft e (place_by None) ns).text nowhere }

abbrev pub operand_piece : Encoding → Operand → Piece
operand_piece e Nothing = nothing
operand_piece e (Uleb n) = bytes (uleb n)
operand_piece e (Sleb z) = bytes (sleb z)
operand_piece e (Block ns) = both (bytes (uleb (expression_size e (place_by None) ns))) (expression_piece e ns)

-- no places of entries are given, and no list of fixups
abbrev pub operand_fails : Encoding → Bool → Operand → Error → Bool
operand_fails e plain (Block ns) err = expression_fails e None false plain ns err
operand_fails e plain o err = never err
