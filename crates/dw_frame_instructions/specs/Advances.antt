-- Advances: how far the place moves on before an instruction (DWARF 5, 6.4.2.1 and 7.24).
use Rattle.std.specs.Prelude.{ℕ, ◌+◌, ◌-◌, ◌/◌, ◌%◌, ◌==◌, Bool, false, not, ◌&&◌, nat_lt, [], ◌∷◌, Option, Some, None, is_none, if◌then◌else◌}
use Rattle.dw_base.specs.Numbers.{when}
use Rattle.dw_base.specs.declared.error.Error.{Error}
use Rattle.dw_base.specs.declared.error.Error.TheVariants as errors
use Rattle.dw_base.specs.declared.constants.TheConstants.{DW_CFA_advance_loc, DW_CFA_advance_loc1, DW_CFA_advance_loc2, DW_CFA_advance_loc4}
use Rattle.dw_frame_instructions.specs.Pieces.{Piece, nothing, missing, bytes, field, both}

-- how often the factor of code offsets goes into the way from an offset to another, which is none further on
abbrev pub delta : ℕ → ℕ → ℕ → Option ℕ
delta factor from to = when (not (nat_lt to from) && (not (factor == 0) && (to - from) % factor == 0)) (Some ((to - from) / factor))

-- in the low six bits of the code, or in one, two or four bytes behind it
abbrev pub delta_piece : ℕ → Piece
delta_piece n =
    if nat_lt n 0x40 then bytes ((DW_CFA_advance_loc.0 + n) ∷ [])
    else (if nat_lt n 0x100 then both (bytes (DW_CFA_advance_loc1.0 ∷ [])) (field 1 n)
    else (if nat_lt n 0x10000 then both (bytes (DW_CFA_advance_loc2.0 ∷ [])) (field 2 n)
    else both (bytes (DW_CFA_advance_loc4.0 ∷ [])) (field 4 n)))

abbrev pub delta_part : Option ℕ → Piece
delta_part None = missing
delta_part (Some n) = delta_piece n

-- an offset that stays has no advance
abbrev pub advance_piece : ℕ → ℕ → ℕ → Piece
advance_piece factor from to = if to == from then nothing else delta_part (delta factor from to)

-- an offset that falls, or moves on by no multiple of the factor
abbrev pub advance_fails : ℕ → ℕ → ℕ → Error → Bool
advance_fails factor from to (errors.InvalidFrameCodeOffset o) = (o == to) && (not (to == from) && is_none (delta factor from to))
advance_fails factor from to err = false
