-- Instructions of call frames, once symbols have values.
use Rattle.std.specs.Prelude.{◌≡◌, ℕ, ◌+◌, ◌==◌, Bool, true, false, nat_lt, List, [], ◌∷◌, map, Option, Some, None, refl, ℤ, pos, negsuc, if◌then◌else◌}
use Rattle.std.specs.Option.{option_map}
use Rattle.std.proofs.Common.{sym, ap, subst}
use Rattle.dw_base.specs.Leb128.{uleb, sleb}
use Rattle.dw_base.specs.Numbers.{◌>>=◌}
use Rattle.dw_base.specs.declared.common.Encoding.{Encoding}
use Rattle.dw_base.specs.declared.common.Register.{Register}
use Rattle.dw_base.specs.declared.constants.TheConstants.{DW_CFA_advance_loc, DW_CFA_advance_loc1, DW_CFA_advance_loc2, DW_CFA_advance_loc4, DW_CFA_def_cfa_sf, DW_CFA_def_cfa_offset_sf}
use Rattle.dw_writer.specs.Layout.{Layout}
use Rattle.dw_expr.specs.Places.{place_by}
use Rattle.dw_expr.specs.Spelling.{expression_size}
use Rattle.dw_frame_instructions.specs.declared.instruction.CallFrameInstruction.{CallFrameInstruction}
use Rattle.dw_frame_instructions.specs.declared.instruction.CallFrameInstruction.TheVariants.{Cfa, CfaRegister, CfaOffset, CfaExpression, Restore, Undefined, SameValue, Offset, ValOffset, Expression, ValExpression, RememberState, RestoreState, ArgsSize, NegateRaState}
use Rattle.dw_frame_instructions.specs.declared.instruction.CallFrameInstruction.TheVariants as built
use Rattle.dw_frame_instructions.specs.declared.program.Step.{Step}
use Rattle.dw_frame_instructions.specs.Advances.{delta, delta_piece, delta_part, advance_piece}
use Rattle.dw_frame_instructions.specs.Factors.{factored}
use Rattle.dw_frame_instructions.specs.Instructions.{Spelling, spell, is_small, restored, offset_rule, value_rule, frame_rule, frame_offset_rule, spelled, spelling_piece, instruction_piece}
use Rattle.dw_frame_instructions.specs.Operands.{Operand, Nothing, Uleb, Sleb, Block, operand_piece, expression_piece}
use Rattle.dw_frame_instructions.specs.Pieces.{nothing, missing, bytes, field}
use Rattle.dw_frame_instructions.specs.Programs.{instructions_piece, program_piece}
use Rattle.dw_link_frames.specs.Numbered.{numbered_nodes, numbered_instruction, numbered_step}
use Rattle.dw_link_frames.proofs.Turning.{Turns, bytes_turn, missing_turn, both_turn, if_turn}
use Rattle.dw_link_frames.proofs.Expressing.{expression_size_same, expression_turns}

module _ (symbols : List ℕ) where
  -- the operands of an instruction; only an expression hangs on symbols
  abbrev pub numbered_block : Operand → Operand
  numbered_block (Block x) = Block (numbered_nodes symbols x)
  numbered_block o = o

  abbrev pub numbered_spelling : Spelling → Spelling
  numbered_spelling s = spell s.code (numbered_block s.first) (numbered_block s.second)

  abbrev IsSame : Option Spelling → Type 0
  IsSame o = o ≡ option_map numbered_spelling o

  same_if : (b : Bool) (s t : Spelling) → s ≡ numbered_spelling s → t ≡ numbered_spelling t → (if b then s else t) ≡ numbered_spelling (if b then s else t)
  same_if true s t h k = h
  same_if false s t h k = k

  same_bound : (o : Option ℤ) (f : ℤ → Spelling) → ((z : ℤ) → f z ≡ numbered_spelling (f z)) → IsSame (o >>= λ z. Some (f z))
  same_bound None f h = refl
  same_bound (Some z) f h = ap (λ s. Some s) (h z)

  restored_same : (r : Register) → restored r ≡ numbered_spelling (restored r)
  restored_same r = same_if (is_small r) _ _ refl refl

  offset_same : (r : Register) (z : ℤ) → offset_rule r z ≡ numbered_spelling (offset_rule r z)
  offset_same r (pos n) = same_if (is_small r) _ _ refl refl
  offset_same r (negsuc n) = refl

  value_same : (r : Register) (z : ℤ) → value_rule r z ≡ numbered_spelling (value_rule r z)
  value_same r (pos n) = refl
  value_same r (negsuc n) = refl

  frame_same : (factor : ℤ) (r : Register) (z : ℤ) → IsSame (frame_rule factor r z)
  frame_same factor r (pos n) = refl
  frame_same factor r (negsuc n) = same_bound (factored factor (negsuc n)) (λ z. spell DW_CFA_def_cfa_sf.0 (Uleb r.0) (Sleb z)) (λ z. refl)

  frame_offset_same : (factor z : ℤ) → IsSame (frame_offset_rule factor z)
  frame_offset_same factor (pos n) = refl
  frame_offset_same factor (negsuc n) = same_bound (factored factor (negsuc n)) (λ z. spell DW_CFA_def_cfa_offset_sf.0 (Sleb z) Nothing) (λ z. refl)

  pub spelled_same : (factor : ℤ) (i : CallFrameInstruction) → spelled factor (numbered_instruction symbols i) ≡ option_map numbered_spelling (spelled factor i)
  spelled_same factor (Cfa r z) = frame_same factor r z
  spelled_same factor (CfaRegister r) = refl
  spelled_same factor (CfaOffset z) = frame_offset_same factor z
  spelled_same factor (CfaExpression x) = refl
  spelled_same factor (Restore r) = ap (λ s. Some s) (restored_same r)
  spelled_same factor (Undefined r) = refl
  spelled_same factor (SameValue r) = refl
  spelled_same factor (Offset r z) = same_bound (factored factor z) (offset_rule r) (offset_same r)
  spelled_same factor (ValOffset r z) = same_bound (factored factor z) (value_rule r) (value_same r)
  spelled_same factor (built.Register r s) = refl
  spelled_same factor (Expression r x) = refl
  spelled_same factor (ValExpression r x) = refl
  spelled_same factor RememberState = refl
  spelled_same factor RestoreState = refl
  spelled_same factor (ArgsSize n) = refl
  spelled_same factor NegateRaState = refl

module _ (big : Bool) (l : Layout) where
  nothing_turn : Turns big l nothing nothing
  nothing_turn xs e = record { size = refl; text = e }

  field_turn : (w n : ℕ) → Turns big l (field w n) (field w n)
  field_turn w n xs e = record { size = refl; text = e }

  operand_turn : (e : Encoding) (o : Operand) → Turns big l (operand_piece e o) (operand_piece e (numbered_block l.symbols o))
  operand_turn e Nothing = nothing_turn
  operand_turn e (Uleb n) = bytes_turn big l (uleb n)
  operand_turn e (Sleb z) = bytes_turn big l (sleb z)
  operand_turn e (Block ns) =
      let more = numbered_nodes l.symbols ns in
      both_turn big l (bytes (uleb (expression_size e (place_by None) ns))) (bytes (uleb (expression_size e (place_by None) more))) (expression_piece e ns) (expression_piece e more)
      (subst (λ n. Turns big l (bytes (uleb (expression_size e (place_by None) ns))) (bytes (uleb n))) (sym (expression_size_same big l e ns)) (bytes_turn big l (uleb (expression_size e (place_by None) ns))))
      (expression_turns big l e ns)

  spelling_turn : (e : Encoding) (o : Option Spelling) → Turns big l (spelling_piece e o) (spelling_piece e (option_map (numbered_spelling l.symbols) o))
  spelling_turn e None = missing_turn big l missing
  spelling_turn e (Some s) =
      both_turn big l (bytes (s.code ∷ [])) (bytes (s.code ∷ [])) _ _ (bytes_turn big l (s.code ∷ []))
      (both_turn big l (operand_piece e s.first) (operand_piece e (numbered_block l.symbols s.first)) (operand_piece e s.second) (operand_piece e (numbered_block l.symbols s.second)) (operand_turn e s.first) (operand_turn e s.second))

  instruction_turn : (e : Encoding) (factor : ℤ) (i : CallFrameInstruction) → Turns big l (instruction_piece e factor i) (instruction_piece e factor (numbered_instruction l.symbols i))
  instruction_turn e factor i =
      subst (λ o. Turns big l (instruction_piece e factor i) (spelling_piece e o)) (sym (spelled_same l.symbols factor i)) (spelling_turn e (spelled factor i))

  pub instructions_turn : (e : Encoding) (factor : ℤ) (is : List CallFrameInstruction) → Turns big l (instructions_piece e factor is) (instructions_piece e factor (map (numbered_instruction l.symbols) is))
  instructions_turn e factor [] = nothing_turn
  instructions_turn e factor (i ∷ is) = both_turn big l _ _ _ _ (instruction_turn e factor i) (instructions_turn e factor is)

  delta_turn : (n : ℕ) → Turns big l (delta_piece n) (delta_piece n)
  delta_turn n =
      if_turn big l (nat_lt n 0x40) _ _ _ _ (bytes_turn big l ((DW_CFA_advance_loc.0 + n) ∷ []))
      (if_turn big l (nat_lt n 0x100) _ _ _ _ (both_turn big l _ _ _ _ (bytes_turn big l (DW_CFA_advance_loc1.0 ∷ [])) (field_turn 1 n))
      (if_turn big l (nat_lt n 0x10000) _ _ _ _ (both_turn big l _ _ _ _ (bytes_turn big l (DW_CFA_advance_loc2.0 ∷ [])) (field_turn 2 n))
      (both_turn big l _ _ _ _ (bytes_turn big l (DW_CFA_advance_loc4.0 ∷ [])) (field_turn 4 n))))

  delta_part_turn : (o : Option ℕ) → Turns big l (delta_part o) (delta_part o)
  delta_part_turn None = missing_turn big l missing
  delta_part_turn (Some n) = delta_turn n

  advance_turn : (factor from to : ℕ) → Turns big l (advance_piece factor from to) (advance_piece factor from to)
  advance_turn factor from to = if_turn big l (to == from) _ _ _ _ nothing_turn (delta_part_turn (delta factor from to))

  pub program_turn : (e : Encoding) (code : ℕ) (factor : ℤ) (from : ℕ) (ss : List Step) → Turns big l (program_piece e code factor from ss) (program_piece e code factor from (map (numbered_step l.symbols) ss))
  program_turn e code factor from [] = nothing_turn
  program_turn e code factor from (s ∷ ss) =
      both_turn big l _ _ _ _ (advance_turn code from s.offset) (both_turn big l _ _ _ _ (instruction_turn e factor s.instruction) (program_turn e code factor s.offset ss))
