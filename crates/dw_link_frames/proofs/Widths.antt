-- Entries of call frames have as many bytes as their texts are long.
use Rattle.std.specs.Prelude.{◌≡◌, ℕ, ◌+◌, ◌==◌, Bool, true, false, nat_lt, List, [], ◌∷◌, ◌++◌, length, Option, Some, None, refl, ℤ, IsTrue, if◌then◌else◌}
use Rattle.std.proofs.Common.{sym, ◌∙◌, ap, arith, length-append}
use Rattle.dw_base.specs.Leb128.{uleb, sleb}
use Rattle.dw_base.specs.Numbers.{num, is_width, word_of, length_size, length_fits, escape_of}
use Rattle.dw_base.specs.declared.address.Address.{Address}
use Rattle.dw_base.specs.declared.common.Encoding.{Encoding}
use Rattle.dw_base.specs.declared.common.Format.{Format}
use Rattle.dw_base.specs.declared.common.Format.TheVariants.{Dwarf32, Dwarf64}
use Rattle.dw_base.specs.declared.constants.DwEhPe.{DwEhPe}
use Rattle.dw_base.specs.declared.constants.TheConstants.{DW_CFA_advance_loc, DW_CFA_advance_loc1, DW_CFA_advance_loc2, DW_CFA_advance_loc4}
use Rattle.dw_base.specs.declared.error.Error.{Error}
use Rattle.dw_base.proofs.NumberLaws.{length-num}
use Rattle.dw_writer.specs.Texts.{zeros}
use Rattle.dw_writer.proofs.Laws.{length-num_text}
use Rattle.dw_expr.specs.Causes.{width_fails}
use Rattle.dw_expr.specs.Places.{place_by}
use Rattle.dw_expr.specs.Spelling.{expression_size}
use Rattle.dw_expr.proofs.ExpressionDrafts.{expression-draft}
use Rattle.dw_frame.specs.declared.cie.CommonInformationEntry.{CommonInformationEntry}
use Rattle.dw_frame.specs.declared.fde.FrameDescriptionEntry.{FrameDescriptionEntry}
use Rattle.dw_frame_instructions.specs.declared.instruction.CallFrameInstruction.{CallFrameInstruction}
use Rattle.dw_frame.specs.declared.kind.FrameKind.{FrameKind}
use Rattle.dw_frame_instructions.specs.declared.program.Step.{Step}
use Rattle.dw_frame_instructions.specs.Advances.{delta, delta_piece, delta_part, advance_piece}
use Rattle.dw_frame.specs.Cies.{is_augmented, has_encoding, byte_if, encoding_if, personality_part, cie_data, first_instructions, cie_head, cie_measures, cie_contents, cie_part}
use Rattle.dw_frame.specs.Entries.{length_piece, with_length, with_count, padding, padded, entry, counted}
use Rattle.dw_frame.specs.Fdes.{cie_pointer, range_part, lsda_part, disagree, mismatch, instructions, fde_contents, fde_part}
use Rattle.dw_frame_instructions.specs.Instructions.{Spelling, spelled, spelling_piece, instruction_piece}
use Rattle.dw_frame_instructions.specs.Operands.{nowhere, Operand, Nothing, Uleb, Sleb, Block, operand_piece, expression_piece}
use Rattle.dw_frame.specs.Parts.{Part, Placed, free, caused, refused_if, only_if, in_turn}
use Rattle.dw_frame_instructions.specs.Pieces.{Piece, nothing, missing, bytes, field, both}
use Rattle.dw_frame.specs.PointerParts.{pointer}
use Rattle.dw_frame_instructions.specs.Programs.{instructions_piece, program_piece}
use Rattle.dw_frame.specs.Reading.{at_zero, IsWide}
use Rattle.dw_frame.proofs.CieReading.{head_wide, measures_wide}
use Rattle.dw_frame.proofs.FdeLaws.{field_wide, turn_wide, pointer_wide, range_wide}
use Rattle.dw_frame.proofs.TextParts.{split, when_some}

-- the text of a piece has its size
abbrev Fits : Piece → Type 0
Fits p = (big : Bool) (xs : List ℕ) → p.text big at_zero ≡ Some xs → length xs ≡ p.size

bytes_fit : (ys : List ℕ) → Fits (bytes ys)
bytes_fit ys big xs e = let f : ys ≡ xs = cc in sym (ap length f)

missing_fits : Fits missing
missing_fits big xs e = cc

nothing_fits : Fits nothing
nothing_fits big xs e = let f : [] ≡ xs = cc in sym (ap length f)

field_fits : (w n : ℕ) → Fits (field w n)
field_fits w n big xs e = let f : num big w n ≡ xs = cc in sym (ap length f) ∙ length-num big w n

both_fit : (p q : Piece) → Fits p → Fits q → Fits (both p q)
unfolding both
both_fit p q h k big zs e =
    let s = split (p.text big at_zero) (q.text big at_zero) zs e in
    omega (arith, ap length s.whole, length-append s.xs s.ys, h big s.xs s.first, k big s.ys s.second)

if_fits : (b : Bool) (p q : Piece) → Fits p → Fits q → Fits (if b then p else q)
if_fits true p q h k = h
if_fits false p q h k = k

-- Advances

delta_fits : (n : ℕ) → Fits (delta_piece n)
delta_fits n =
    if_fits (nat_lt n 0x40) _ _ (bytes_fit ((DW_CFA_advance_loc.0 + n) ∷ []))
    (if_fits (nat_lt n 0x100) _ _ (both_fit (bytes (DW_CFA_advance_loc1.0 ∷ [])) (field 1 n) (bytes_fit (DW_CFA_advance_loc1.0 ∷ [])) (field_fits 1 n))
    (if_fits (nat_lt n 0x10000) _ _ (both_fit (bytes (DW_CFA_advance_loc2.0 ∷ [])) (field 2 n) (bytes_fit (DW_CFA_advance_loc2.0 ∷ [])) (field_fits 2 n))
    (both_fit (bytes (DW_CFA_advance_loc4.0 ∷ [])) (field 4 n) (bytes_fit (DW_CFA_advance_loc4.0 ∷ [])) (field_fits 4 n))))

delta_part_fits : (o : Option ℕ) → Fits (delta_part o)
delta_part_fits None = missing_fits
delta_part_fits (Some n) = delta_fits n

-- Instructions

module _ (e : Encoding) (width : IsTrue (is_width e.address_size)) where
  operand_fits : (o : Operand) → Fits (operand_piece e o)
  operand_fits Nothing = nothing_fits
  operand_fits (Uleb n) = bytes_fit (uleb n)
  operand_fits (Sleb z) = bytes_fit (sleb z)
  operand_fits (Block x) =
      both_fit (bytes (uleb (expression_size e (place_by None) x))) (expression_piece e x) (bytes_fit (uleb (expression_size e (place_by None) x)))
      (λ big xs h. (expression-draft e (place_by None) width x).wide nowhere big at_zero xs h)

  spelling_fits : (o : Option Spelling) → Fits (spelling_piece e o)
  spelling_fits None = missing_fits
  spelling_fits (Some s) =
      both_fit (bytes (s.code ∷ [])) (both (operand_piece e s.first) (operand_piece e s.second)) (bytes_fit (s.code ∷ []))
      (both_fit (operand_piece e s.first) (operand_piece e s.second) (operand_fits s.first) (operand_fits s.second))

  instruction_fits : (factor : ℤ) (i : CallFrameInstruction) → Fits (instruction_piece e factor i)
  instruction_fits factor i = spelling_fits (spelled factor i)

  instructions_fit : (factor : ℤ) (is : List CallFrameInstruction) → Fits (instructions_piece e factor is)
  instructions_fit factor [] = nothing_fits
  instructions_fit factor (i ∷ is) = both_fit _ _ (instruction_fits factor i) (instructions_fit factor is)

  program_fits : (code : ℕ) (factor : ℤ) (from : ℕ) (ss : List Step) → Fits (program_piece e code factor from ss)
  program_fits code factor from [] = nothing_fits
  program_fits code factor from (s ∷ ss) =
      both_fit (advance_piece code from s.offset) (both (instruction_piece e factor s.instruction) (program_piece e code factor s.offset ss))
      (if_fits (s.offset == from) nothing (delta_part (delta code from s.offset)) nothing_fits (delta_part_fits (delta code from s.offset)))
      (both_fit (instruction_piece e factor s.instruction) (program_piece e code factor s.offset ss) (instruction_fits factor s.instruction) (program_fits code factor s.offset ss))

-- Entries

length_piece_fits : (format : Format) (n : ℕ) → Fits (length_piece format n)
length_piece_fits format n big xs e =
    let f = when_some (length_fits format n) (escape_of format ++ num big (word_of format) n) xs e in
    sym (ap length f.1) ∙ length-append (escape_of format) (num big (word_of format) n) ∙ ap (λ k. length (escape_of format) + k) (length-num big (word_of format) n) ∙ by_format format
  where
    by_format : (f : Format) → length (escape_of f) + word_of f ≡ length_size f
    by_format Dwarf32 = refl
    by_format Dwarf64 = refl

with_length_wide : (format : Format) (p : Part) → IsWide p → IsWide (with_length format p)
unfolding with_length
with_length_wide format p h = both_fit (length_piece format p.piece.size) p.piece (length_piece_fits format p.piece.size) h

counted_wide : (p : Placed) (at : ℕ) → IsWide (p (at + 1)) → IsWide (counted p at)
unfolding with_count
counted_wide p at h = both_fit _ _ (λ big xs e. length-num_text big 1 (p (at + 1)).piece.size xs e) h

-- where addresses have no width, there is no padding
filled_by : (b : Bool) (p : Placed) (ys : List ℕ) (f : Error → Bool) (at : ℕ) → (IsTrue b → IsWide (p at)) → IsWide (in_turn p (if b then free (bytes ys) else caused missing f) at)
unfolding in_turn both
filled_by true p ys f at h = turn_wide p (free (bytes ys)) at (h refl) (bytes_fit ys)
filled_by false p ys f at h = λ big zs e. let s = split ((p at).piece.text big at_zero) None zs e in cc

entry_wide : (e : Encoding) (p : Placed) (at : ℕ) → (IsTrue (is_width e.address_size) → IsWide (p (at + length_size e.format))) → IsWide (entry e p at)
entry_wide e p at h =
    let n = at + length_size e.format in
    let size = (p n).piece.size in
    with_length_wide e.format (in_turn p (padded e size) n) (filled_by (is_width e.address_size) p (zeros (padding e.address_size (word_of e.format + size))) (width_fails e.address_size) n h)

only_wide : (b : Bool) (p : Placed) (at : ℕ) → IsWide (p at) → IsWide (only_if b p at)
only_wide true p at h = h
only_wide false p at h = nothing_fits

byte_fits : (b : Bool) (n : ℕ) → Fits (byte_if b n)
byte_fits true n = bytes_fit (n ∷ [])
byte_fits false n = bytes_fit []

encoding_fits : (o : Option DwEhPe) → Fits (encoding_if o)
encoding_fits None = bytes_fit []
encoding_fits (Some e) = bytes_fit (e.0 ∷ [])

personality_wide : (w : ℕ) (o : Option (DwEhPe × Address)) (at : ℕ) → IsWide (personality_part w o at)
personality_wide w None at = bytes_fit []
personality_wide w (Some p) at = turn_wide (free (bytes (p.0.0 ∷ []))) (pointer w p.0.0 p.1) at (bytes_fit (p.0.0 ∷ [])) (pointer_wide w p.0.0 p.1 (at + 1))

data_wide : (c : CommonInformationEntry) (at : ℕ) → IsWide (cie_data c at)
data_wide c at =
    let last = free (byte_if (has_encoding c) c.fde_address_encoding.0) in
    let w = c.encoding.address_size in
    let n = at + (encoding_if c.lsda_encoding).size in
    turn_wide (free (encoding_if c.lsda_encoding)) (in_turn (personality_part w c.personality) last) at (encoding_fits c.lsda_encoding)
    (turn_wide (personality_part w c.personality) last n (personality_wide w c.personality n) (byte_fits (has_encoding c) c.fde_address_encoding.0))

pub cie_wide : (kind : FrameKind) (c : CommonInformationEntry) (at : ℕ) → IsWide (cie_part kind c at)
cie_wide kind c at =
    let block : Placed = only_if (is_augmented c) (counted (cie_data c)) in
    let n = at + length_size c.encoding.format in
    let n1 = n + (cie_head kind c n).piece.size in
    let n2 = n1 + (cie_measures kind c n1).piece.size in
    entry_wide c.encoding (cie_contents kind c) at
    (λ width. turn_wide (cie_head kind c) (in_turn (cie_measures kind c) (in_turn block (first_instructions c))) n (head_wide kind c n)
    (turn_wide (cie_measures kind c) (in_turn block (first_instructions c)) n1 (measures_wide kind c n1)
    (turn_wide block (first_instructions c) n2 (only_wide (is_augmented c) (counted (cie_data c)) n2 (counted_wide (cie_data c) n2 (data_wide c (n2 + 1))))
    (instructions_fit c.encoding width c.data_alignment_factor c.instructions.items))))

lsda_wide : (w : ℕ) (e : Option DwEhPe) (a : Option Address) (at : ℕ) → IsWide (lsda_part w e a at)
lsda_wide w None None at = bytes_fit []
lsda_wide w None (Some a) at = bytes_fit []
lsda_wide w (Some e) None at = bytes_fit []
lsda_wide w (Some e) (Some a) at = pointer_wide w e.0 a at

refused_wide : (b : Bool) (at : ℕ) → IsWide (refused_if b mismatch at)
refused_wide true at = missing_fits
refused_wide false at = nothing_fits

pub fde_wide : (kind : FrameKind) (cie : ℕ) (c : CommonInformationEntry) (f : FrameDescriptionEntry) (at : ℕ) → IsWide (fde_part kind cie c f at)
fde_wide kind cie c f at =
    let b = disagree c.lsda_encoding f.lsda in
    let lsda : Placed = lsda_part c.encoding.address_size c.lsda_encoding f.lsda in
    let block : Placed = only_if (is_augmented c) (counted lsda) in
    let field : Placed = cie_pointer kind c.encoding.format cie in
    let m = at + (refused_if b mismatch at).piece.size in
    let n = m + length_size c.encoding.format in
    let n1 = n + (field n).piece.size in
    let n2 = n1 + (range_part c f n1).piece.size in
    turn_wide (refused_if b mismatch) (entry c.encoding (fde_contents kind cie c f)) at (refused_wide b at)
    (entry_wide c.encoding (fde_contents kind cie c f) m
    (λ width. turn_wide field (in_turn (range_part c f) (in_turn block (instructions c f))) n (field_wide kind c.encoding.format cie n)
    (turn_wide (range_part c f) (in_turn block (instructions c f)) n1 (range_wide c f n1)
    (turn_wide block (instructions c f) n2 (only_wide (is_augmented c) (counted lsda) n2 (counted_wide lsda n2 (lsda_wide c.encoding.address_size c.lsda_encoding f.lsda (n2 + 1))))
    (program_fits c.encoding width c.code_alignment_factor c.data_alignment_factor 0 f.steps.items)))))
