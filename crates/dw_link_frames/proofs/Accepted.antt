-- Tables that no writer has a cause to refuse are there, once symbols have values.
use Rattle.std.specs.Prelude.{◌≡◌, ℕ, ◌+◌, ◌==◌, ◌&&◌, Bool, true, false, not, nat_lt, List, [], ◌∷◌, ◌++◌, map, Option, Some, None, is_none, refl, ℤ, IsFalse, if◌then◌else◌}
use Rattle.std.specs.Option.{option_map}
use Rattle.std.specs.Ordering.{int_eq}
use Rattle.std.proofs.Common.{sym, ◌∙◌, ap, subst, arith}
use Rattle.std.proofs.lemmas.Bool.{eq-eqb}
use Rattle.std.proofs.lemmas.Cmp.{int_eq_equiv}
use Rattle.dw_base.specs.Leb128.{uleb, sleb}
use Rattle.dw_base.specs.Numbers.{when, num, is_width, word_of, length_size, length_fits, escape_of}
use Rattle.dw_base.specs.declared.common.Encoding.{Encoding}
use Rattle.dw_base.specs.declared.common.Format.{Format}
use Rattle.dw_base.specs.declared.error.Error.{Error}
use Rattle.dw_base.specs.declared.error.Error.TheVariants as errors
use Rattle.dw_writer.specs.Layout.{Layout}
use Rattle.dw_writer.specs.Texts.{zeros}
use Rattle.dw_expr.specs.Causes.{width_fails}
use Rattle.dw_expr.specs.Places.{place_by}
use Rattle.dw_expr.specs.Spelling.{expression_size}
use Rattle.dw_frame_instructions.specs.declared.instruction.CallFrameInstruction.{CallFrameInstruction}
use Rattle.dw_frame_instructions.specs.declared.instruction.CallFrameInstruction.TheVariants.{Cfa, CfaRegister, CfaOffset, CfaExpression, Restore, Undefined, SameValue, Offset, ValOffset, Expression, ValExpression, RememberState, RestoreState, ArgsSize, NegateRaState}
use Rattle.dw_frame_instructions.specs.declared.instruction.CallFrameInstruction.TheVariants as built
use Rattle.dw_frame_instructions.specs.declared.program.Step.{Step}
use Rattle.dw_frame_instructions.specs.Advances.{delta, delta_piece, delta_part, advance_piece, advance_fails}
use Rattle.dw_frame_instructions.specs.Causes.{IsNone, either}
use Rattle.dw_frame.specs.Entries.{length_piece, length_fails, with_length, with_count, padding, padded, entry, counted}
use Rattle.dw_frame_instructions.specs.Instructions.{Spelling, spelled, offset_of, is_offset, factor_fails, spelling_piece, spelling_fails, instruction_piece, instruction_fails}
use Rattle.dw_frame_instructions.specs.Operands.{Operand, Nothing, Uleb, Sleb, Block, operand_piece, operand_fails, expression_piece}
use Rattle.dw_frame.specs.Parts.{Part, Placed, free, caused, only_if, in_turn}
use Rattle.dw_frame_instructions.specs.Pieces.{Piece, nothing, missing, bytes, number, field, both}
use Rattle.dw_frame_instructions.specs.Programs.{instructions_piece, instructions_fail, program_piece, program_fails}
use Rattle.dw_link_frames.specs.Numbered.{numbered_instruction, numbered_step}
use Rattle.dw_link_frames.proofs.Instructing.{numbered_block, numbered_spelling, spelled_same}
use Rattle.dw_link_frames.proofs.Sound.{IsThere, followed_there, true_from, width_known, number_there, There, Known, both_there}
use Rattle.dw_link_frames.proofs.Tabling.{turn_none, length_none, neither_left, neither_right}
use Rattle.dw_link_frames.proofs.Turning.{filled}
use Rattle.dw_link_frames.proofs.Valid.{left_none, right_none, expression_there}

-- Instructions that have no spelling have a cause

is_itself : (z : ℤ) → int_eq z z ≡ true
is_itself z = int_eq_equiv.refl z

unspelled : (factor : ℤ) (i : CallFrameInstruction) → spelled factor i ≡ None → (z : ℤ) × (offset_of i ≡ Some z)
unspelled factor (Cfa r z) h = (z, refl)
unspelled factor (CfaRegister r) h = cc
unspelled factor (CfaOffset z) h = (z, refl)
unspelled factor (CfaExpression x) h = cc
unspelled factor (Restore r) h = cc
unspelled factor (Undefined r) h = cc
unspelled factor (SameValue r) h = cc
unspelled factor (Offset r z) h = (z, refl)
unspelled factor (ValOffset r z) h = (z, refl)
unspelled factor (built.Register r s) h = cc
unspelled factor (Expression r x) h = cc
unspelled factor (ValExpression r x) h = cc
unspelled factor RememberState h = cc
unspelled factor RestoreState h = cc
unspelled factor (ArgsSize n) h = cc
unspelled factor NegateRaState h = cc

module _ (big : Bool) (l : Layout) where
  free_there : (xs : List ℕ) → There big l (bytes xs)
  free_there xs = (xs, refl)

  nothing_there : There big l nothing
  nothing_there = ([], refl)

  field_there : (w n : ℕ) → There big l (field w n)
  field_there w n = (num big w n, refl)

  if_piece_there : (b : Bool) (p q : Piece) → There big l p → There big l q → There big l (if b then p else q)
  if_piece_there true p q h k = h
  if_piece_there false p q h k = k

  operand_there : (e : Encoding) (o : Operand) → IsNone (operand_fails e false o) → IsNone (operand_fails e true (numbered_block l.symbols o)) → There big l (operand_piece e o)
  operand_there e Nothing h k = nothing_there
  operand_there e (Uleb n) h k = free_there (uleb n)
  operand_there e (Sleb z) h k = free_there (sleb z)
  operand_there e (Block ns) h k =
      both_there big l (bytes (uleb (expression_size e (place_by None) ns))) (expression_piece e ns) (free_there (uleb (expression_size e (place_by None) ns))) (expression_there big l e ns h k)

  spelling_there : (e : Encoding) (s : Spelling) → IsNone (spelling_fails e false (Some s)) → IsNone (spelling_fails e true (Some (numbered_spelling l.symbols s))) → There big l (spelling_piece e (Some s))
  spelling_there e s h k =
      let f = operand_fails e false s.first in
      let g = operand_fails e false s.second in
      let p = operand_fails e true (numbered_block l.symbols s.first) in
      let q = operand_fails e true (numbered_block l.symbols s.second) in
      both_there big l (bytes (s.code ∷ [])) (both (operand_piece e s.first) (operand_piece e s.second)) (free_there (s.code ∷ []))
      (both_there big l (operand_piece e s.first) (operand_piece e s.second) (operand_there e s.first (left_none f g h) (left_none p q k)) (operand_there e s.second (right_none f g h) (right_none p q k)))

  by_spelling : (e : Encoding) (o : Option Spelling) (offset : Option ℤ) → (o ≡ None → (z : ℤ) × (offset ≡ Some z)) → IsNone (factor_fails o offset) → IsNone (spelling_fails e false o) → IsNone (spelling_fails e true (option_map (numbered_spelling l.symbols) o)) →
      There big l (spelling_piece e o)
  by_spelling e None offset has h none other =
      let z = has refl in
      let k : is_offset z.0 (Some z.0) ≡ false = ap (is_offset z.0) (sym z.1) ∙ h (errors.InvalidFrameDataOffset z.0) in
      let x : true ≡ false = sym (is_itself z.0) ∙ k in cc
  by_spelling e (Some s) offset has h none other = spelling_there e s none other

  instruction_there : (e : Encoding) (factor : ℤ) (i : CallFrameInstruction) → IsNone (instruction_fails e factor false i) → IsNone (instruction_fails e factor true (numbered_instruction l.symbols i)) → There big l (instruction_piece e factor i)
  instruction_there e factor i h k =
      let j = numbered_instruction l.symbols i in
      let f = factor_fails (spelled factor i) (offset_of i) in
      let other = right_none (factor_fails (spelled factor j) (offset_of j)) (spelling_fails e true (spelled factor j)) k in
      by_spelling e (spelled factor i) (offset_of i) (unspelled factor i) (left_none f (spelling_fails e false (spelled factor i)) h) (right_none f (spelling_fails e false (spelled factor i)) h)
      (subst (λ o. IsNone (spelling_fails e true o)) (spelled_same l.symbols factor i) other)

  pub instructions_there : (e : Encoding) (factor : ℤ) (is : List CallFrameInstruction) → IsNone (instructions_fail e factor false is) → IsNone (instructions_fail e factor true (map (numbered_instruction l.symbols) is)) → There big l (instructions_piece e factor is)
  instructions_there e factor [] h k = nothing_there
  instructions_there e factor (i ∷ is) h k =
      let f = instruction_fails e factor false i in
      let g = instructions_fail e factor false is in
      let p = instruction_fails e factor true (numbered_instruction l.symbols i) in
      let q = instructions_fail e factor true (map (numbered_instruction l.symbols) is) in
      both_there big l (instruction_piece e factor i) (instructions_piece e factor is) (instruction_there e factor i (left_none f g h) (left_none p q k)) (instructions_there e factor is (right_none f g h) (right_none p q k))

  delta_there : (n : ℕ) → There big l (delta_piece n)
  delta_there n =
      if_piece_there (nat_lt n 0x40) _ _ (free_there _)
      (if_piece_there (nat_lt n 0x100) _ _ (both_there big l _ _ (free_there _) (field_there 1 n))
      (if_piece_there (nat_lt n 0x10000) _ _ (both_there big l _ _ (free_there _) (field_there 2 n)) (both_there big l _ _ (free_there _) (field_there 4 n))))

  advance_by : (b : Bool) (o : Option ℕ) → IsFalse (not b && is_none o) → There big l (if b then nothing else delta_part o)
  advance_by true o h = nothing_there
  advance_by false None h = cc
  advance_by false (Some n) h = delta_there n

  advance_there : (factor from to : ℕ) → IsNone (advance_fails factor from to) → There big l (advance_piece factor from to)
  advance_there factor from to h =
      let k : IsFalse ((to == to) && (not (to == from) && is_none (delta factor from to))) = h (errors.InvalidFrameCodeOffset to) in
      advance_by (to == from) (delta factor from to) (sym (ap (λ b. b && (not (to == from) && is_none (delta factor from to))) (eq-eqb to to refl)) ∙ k)

  pub program_there : (e : Encoding) (code : ℕ) (factor : ℤ) (from : ℕ) (ss : List Step) → IsNone (program_fails e code factor false from ss) → IsNone (program_fails e code factor true from (map (numbered_step l.symbols) ss)) → There big l (program_piece e code factor from ss)
  program_there e code factor from [] h k = nothing_there
  program_there e code factor from (s ∷ ss) h k =
      let f = advance_fails code from s.offset in
      let a = instruction_fails e factor false s.instruction in
      let b = program_fails e code factor false s.offset ss in
      let c = instruction_fails e factor true (numbered_instruction l.symbols s.instruction) in
      let d = program_fails e code factor true s.offset (map (numbered_step l.symbols) ss) in
      let own = right_none f (either a b) h in
      let now = right_none f (either c d) k in
      both_there big l (advance_piece code from s.offset) (both (instruction_piece e factor s.instruction) (program_piece e code factor s.offset ss)) (advance_there code from s.offset (left_none f (either a b) h))
      (both_there big l (instruction_piece e factor s.instruction) (program_piece e code factor s.offset ss) (instruction_there e factor s.instruction (left_none a b own) (left_none c d now)) (program_there e code factor s.offset ss (right_none a b own) (right_none c d now)))

  -- Entries

  length_there : (format : Format) (p q : Part) → (IsNone (p.fails false) → There big l p.piece) → IsNone ((with_length format p).fails false) → There big l (with_length format p).piece
  unfolding with_length
  length_there format p q h none =
      let fit = true_from (length_fits format p.piece.size) (neither_right (p.fails false) (length_fails format p.piece.size) none errors.InitialLengthOverflow) in
      both_there big l (length_piece format p.piece.size) p.piece (when_so (length_fits format p.piece.size) (escape_of format ++ num big (word_of format) p.piece.size) fit) (h (neither_left (p.fails false) (length_fails format p.piece.size) none))
    where
      when_so : (b : Bool) (xs : List ℕ) → b ≡ true → IsThere (when b (Some xs))
      when_so true xs h = (xs, refl)
      when_so false xs h = cc

  filled_by : (b : Bool) (p : Placed) (ys : List ℕ) (f : Error → Bool) (at : ℕ) → There big l (p at).piece → b ≡ true → There big l (in_turn p (if b then free (bytes ys) else caused missing f) at).piece
  unfolding in_turn both
  filled_by true p ys f at h e = followed_there ((p at).piece.text big l) (Some ys) h (ys, refl)
  filled_by false p ys f at h e = cc

  width_by : (b : Bool) (ys : List ℕ) (f : Error → Bool) (at : ℕ) → IsNone (((if b then free (bytes ys) else caused missing f) at).fails false) → (b ≡ false → IsNone f → ⊥) → b ≡ true
  width_by true ys f at h k = refl
  width_by false ys f at h k = absurd (k refl h)

  no_width : (w : ℕ) → is_width w ≡ false → IsNone (width_fails w) → ⊥
  no_width w h k = let x : true ≡ false = sym (width_known w k) ∙ h in cc

  pub entry_known : (e : Encoding) (p q : Placed) (at : ℕ) → Known big l p q (at + length_size e.format) → Known big l (entry e p) (entry e q) at
  entry_known e p q at h none other =
      let n = at + length_size e.format in
      let m = l.own_start + at + length_size e.format in
      let size = (p n).piece.size in
      let inner : Placed = filled big l e p in
      let now : Placed = filled big l e q in
      let q_none = length_none true e.format (now m) other in
      let body = (turn_none true q (padded e (q m).piece.size) m q_none).0 in
      let there : m ≡ l.own_start + n = omega arith in
      length_there e.format (inner n) (inner n)
      (λ p_none.
      let parts = turn_none false p (padded e size) n p_none in
      let text = h parts.0 (subst (λ k. IsNone ((q k).fails true)) there body) in
      let ys = zeros (padding e.address_size (word_of e.format + size)) in
      let width = width_by (is_width e.address_size) ys (width_fails e.address_size) (n + size) parts.1 (no_width e.address_size) in
      filled_by (is_width e.address_size) p ys (width_fails e.address_size) n text width) none

  pub counted_known : (p q : Placed) (at : ℕ) → Known big l p q (at + 1) → Known big l (counted p) (counted q) at
  unfolding with_count
  counted_known p q at h none other =
      let own = p (at + 1) in
      let there : l.own_start + at + 1 ≡ l.own_start + (at + 1) = omega arith in
      let body = neither_left ((q (l.own_start + at + 1)).fails true) _ other in
      both_there big l (number 1 own.piece.size) own.piece (number_there big 1 own.piece.size (neither_right (own.fails false) _ none)) (h (neither_left (own.fails false) _ none) (subst (λ k. IsNone ((q k).fails true)) there body))

  pub only_known : (b : Bool) (p q : Placed) (at : ℕ) → Known big l p q at → Known big l (only_if b p) (only_if b q) at
  only_known true p q at h = h
  only_known false p q at h = λ none other. nothing_there
