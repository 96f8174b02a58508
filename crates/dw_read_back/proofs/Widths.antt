-- The texts of entries have the sizes that are told of them.
use Rattle.std.specs.Prelude.{◌≡◌, ℕ, ◌+◌, ◌≤◌, ◌==◌, ◌&&◌, nat_lt, IsTrue, Bool, true, false, List, [], ◌∷◌, length, Option, Some, None, ℤ, if◌then◌else◌}
use Rattle.std.proofs.Common.{sym, ◌∙◌, ap, subst, arith, length-append}
use Rattle.std.proofs.lemmas.Bool.{and_parts}
use Rattle.std.proofs.lemmas.Bool.Decides.{nat_tests}
use Rattle.dw_base.specs.Numbers.{◌>>=◌, num, is_width, fits}
use Rattle.dw_base.specs.Leb128.{uleb, sleb}
use Rattle.dw_base.specs.Pointers.{format_of, signed_of}
use Rattle.dw_base.specs.declared.address.Address.{Address}
use Rattle.dw_base.specs.declared.common.Encoding.{Encoding}
use Rattle.dw_base.specs.declared.constants.DwEhPe.{DwEhPe}
use Rattle.dw_base.proofs.Leb128Laws.{uleb_short, sleb_short}
use Rattle.dw_base.proofs.NumberLaws.{length-num}
use Rattle.dw_writer.specs.Texts.{Text, num_text, zeros}
use Rattle.dw_writer.specs.SignedNumbers.{signed_fits, signed_num}
use Rattle.dw_writer.specs.Pointers.{signed_text, layout_by, laid_out, constant_pointer, counted, data_text}
use Rattle.dw_writer.specs.declared.pointer.PointerLayout.{PointerLayout}
use Rattle.dw_writer.specs.declared.pointer.PointerLayout.TheVariants.{Uleb128, Sleb128, Unsigned, Signed}
use Rattle.dw_writer.proofs.Laws.{length-num_text, length-signed_text}
use Rattle.dw_expr.specs.Causes.{width_fails}
use Rattle.dw_expr.specs.Places.{place_by}
use Rattle.dw_expr.specs.Spelling.{expression_size}
use Rattle.dw_expr.proofs.ExpressionDrafts.{expression-wide}
use Rattle.dw_frame.specs.declared.cie.CommonInformationEntry.{CommonInformationEntry}
use Rattle.dw_frame.specs.declared.fde.FrameDescriptionEntry.{FrameDescriptionEntry}
use Rattle.dw_frame_instructions.specs.declared.instruction.CallFrameInstruction.{CallFrameInstruction}
use Rattle.dw_frame.specs.declared.kind.FrameKind.{FrameKind}
use Rattle.dw_frame_instructions.specs.declared.program.Step.{Step}
use Rattle.dw_frame_instructions.specs.Advances.{delta, delta_part, advance_piece}
use Rattle.dw_frame.specs.Cies.{byte_if, encoding_if, personality_part, cie_data, is_augmented, has_encoding, first_instructions, cie_head, cie_measures, cie_contents}
use Rattle.dw_frame.specs.Entries.{with_count, padded}
use Rattle.dw_frame.specs.Entries as entries
use Rattle.dw_frame.specs.Fdes.{cie_pointer, range_part, lsda_part, instructions, fde_contents}
use Rattle.dw_frame_instructions.specs.Instructions.{Spelling, spelled, spelling_piece, instruction_piece}
use Rattle.dw_frame_instructions.specs.Operands.{Operand, Nothing, Uleb, Sleb, Block, nowhere, operand_piece, expression_piece}
use Rattle.dw_frame.specs.Parts.{Part, Placed, free, caused, only_if, in_turn}
use Rattle.dw_frame_instructions.specs.Pieces.{Piece, missing, bytes, field, number, both}
use Rattle.dw_frame.specs.PointerParts.{pointer}
use Rattle.dw_frame_instructions.specs.Programs.{instructions_piece, program_piece}
use Rattle.dw_frame.specs.Reading.{at_zero, IsWide}
use Rattle.dw_frame.proofs.CieReading.{head_wide, measures_wide}
use Rattle.dw_frame.proofs.FdeLaws.{turn_wide, pointer_wide, field_wide, range_wide}
use Rattle.dw_frame.proofs.TextParts.{split, some_if}

-- a piece whose text is as long as its size
abbrev pub IsWidePiece : Piece → Type 0
IsWidePiece p = (big : Bool) (xs : List ℕ) → p.text big at_zero ≡ Some xs → length xs ≡ p.size

pub bytes_wide : (ys : List ℕ) → IsWidePiece (bytes ys)
bytes_wide ys big xs e = let f : ys ≡ xs = cc in sym (ap length f)

both_wide : (p q : Piece) → IsWidePiece p → IsWidePiece q → IsWidePiece (both p q)
unfolding both
both_wide p q h k big zs e =
    let s = split (p.text big at_zero) (q.text big at_zero) zs e in
    omega (arith, ap length s.whole, length-append s.xs s.ys, h big s.xs s.first, k big s.ys s.second)

field_piece_wide : (w n : ℕ) → IsWidePiece (field w n)
field_piece_wide w n big xs e = let f : num big w n ≡ xs = cc in sym (ap length f) ∙ length-num big w n

-- programs
operand_wide : (e : Encoding) (o : Operand) → IsWidePiece (operand_piece e o)
operand_wide e Nothing = bytes_wide []
operand_wide e (Uleb n) = bytes_wide (uleb n)
operand_wide e (Sleb z) = bytes_wide (sleb z)
operand_wide e (Block ns) =
    both_wide (bytes (uleb (expression_size e (place_by None) ns))) (expression_piece e ns) (bytes_wide (uleb (expression_size e (place_by None) ns)))
    (λ big xs h. expression-wide e (place_by None) ns nowhere big at_zero xs h)

spelling_wide : (e : Encoding) (s : Option Spelling) → IsWidePiece (spelling_piece e s)
spelling_wide e None = λ big xs h. cc
spelling_wide e (Some s) =
    both_wide (bytes (s.code ∷ [])) (both (operand_piece e s.first) (operand_piece e s.second)) (bytes_wide (s.code ∷ []))
    (both_wide (operand_piece e s.first) (operand_piece e s.second) (operand_wide e s.first) (operand_wide e s.second))

instructions_wide : (e : Encoding) (factor : ℤ) (is : List CallFrameInstruction) → IsWidePiece (instructions_piece e factor is)
instructions_wide e factor [] = bytes_wide []
instructions_wide e factor (i ∷ is) =
    both_wide (instruction_piece e factor i) (instructions_piece e factor is) (spelling_wide e (spelled factor i)) (instructions_wide e factor is)

if_wide : (b : Bool) (p q : Piece) → IsWidePiece p → IsWidePiece q → IsWidePiece (if b then p else q)
if_wide true p q h k = h
if_wide false p q h k = k

coded_wide : (code w n : ℕ) → IsWidePiece (both (bytes (code ∷ [])) (field w n))
coded_wide code w n = both_wide (bytes (code ∷ [])) (field w n) (bytes_wide (code ∷ [])) (field_piece_wide w n)

delta_wide : (o : Option ℕ) → IsWidePiece (delta_part o)
delta_wide None = λ big xs h. cc
delta_wide (Some n) =
    if_wide (nat_lt n 0x40) _ _ (bytes_wide ((0x40 + n) ∷ []))
    (if_wide (nat_lt n 0x100) _ _ (coded_wide 2 1 n) (if_wide (nat_lt n 0x10000) _ _ (coded_wide 3 2 n) (coded_wide 4 4 n)))

program_wide : (e : Encoding) (code_factor : ℕ) (data_factor : ℤ) (from : ℕ) (ss : List Step) → IsWidePiece (program_piece e code_factor data_factor from ss)
program_wide e code_factor data_factor from [] = bytes_wide []
program_wide e code_factor data_factor from (s ∷ ss) =
    both_wide (advance_piece code_factor from s.offset) (both (instruction_piece e data_factor s.instruction) (program_piece e code_factor data_factor s.offset ss))
    (if_wide (s.offset == from) _ _ (bytes_wide []) (delta_wide (delta code_factor from s.offset)))
    (both_wide (instruction_piece e data_factor s.instruction) (program_piece e code_factor data_factor s.offset ss) (spelling_wide e (spelled data_factor s.instruction)) (program_wide e code_factor data_factor s.offset ss))

-- parts of entries
only_wide : (b : Bool) (p : Placed) (at : ℕ) → IsWide (p at) → IsWide (only_if b p at)
only_wide true p at h = h
only_wide false p at h = bytes_wide []

count_wide : (p : Part) → IsWide p → IsWide (with_count p)
unfolding with_count
count_wide p h = both_wide (number 1 p.piece.size) p.piece (λ big xs e. length-num_text big 1 p.piece.size xs e) h

encoding_wide : (o : Option DwEhPe) → IsWidePiece (encoding_if o)
encoding_wide None = bytes_wide []
encoding_wide (Some x) = bytes_wide (x.0 ∷ [])

pub byte_wide : (b : Bool) (n : ℕ) → IsWidePiece (byte_if b n)
byte_wide true n = bytes_wide (n ∷ [])
byte_wide false n = bytes_wide []

personality_wide : (w : ℕ) (p : Option (DwEhPe × Address)) (at : ℕ) → IsWide (personality_part w p at)
personality_wide w None at = bytes_wide []
personality_wide w (Some q) at = turn_wide (free (bytes (q.0.0 ∷ []))) (pointer w q.0.0 q.1) at (bytes_wide (q.0.0 ∷ [])) (pointer_wide w q.0.0 q.1 (at + 1))

pub data_wide : (c : CommonInformationEntry) (at : ℕ) → IsWide (cie_data c at)
data_wide c at =
    turn_wide (free (encoding_if c.lsda_encoding)) (in_turn (personality_part c.encoding.address_size c.personality) (free (byte_if (has_encoding c) c.fde_address_encoding.0))) at (encoding_wide c.lsda_encoding)
    (turn_wide (personality_part c.encoding.address_size c.personality) (free (byte_if (has_encoding c) c.fde_address_encoding.0)) _ (personality_wide c.encoding.address_size c.personality _)
    (byte_wide (has_encoding c) c.fde_address_encoding.0))

pub lsda_wide : (w : ℕ) (o : Option DwEhPe) (x : Option Address) (at : ℕ) → IsWide (lsda_part w o x at)
lsda_wide w None None at = bytes_wide []
lsda_wide w None (Some a) at = bytes_wide []
lsda_wide w (Some e) None at = bytes_wide []
lsda_wide w (Some e) (Some a) at = pointer_wide w e.0 a at

padded_by : (b : Bool) (w k at : ℕ) → IsWide ((if b then free (bytes (zeros k)) else caused missing (width_fails w)) at)
padded_by true w k at = bytes_wide (zeros k)
padded_by false w k at = λ big xs e. cc

pub pad_wide : (e : Encoding) (n at : ℕ) → IsWide (padded e n at)
pad_wide e n at = padded_by (is_width e.address_size) e.address_size _ at

block_wide : (b : Bool) (p : Placed) (at : ℕ) → ((n : ℕ) → IsWide (p n)) → IsWide (only_if b (entries.counted p) at)
block_wide b p at h = only_wide b (entries.counted p) at (count_wide (p (at + 1)) (h (at + 1)))

pub cie_wide : (kind : FrameKind) (c : CommonInformationEntry) (at : ℕ) → IsWide (cie_contents kind c at)
cie_wide kind c at =
    let block : Placed = only_if (is_augmented c) (entries.counted (cie_data c)) in
    turn_wide (cie_head kind c) (in_turn (cie_measures kind c) (in_turn block (first_instructions c))) at (head_wide kind c at)
    (turn_wide (cie_measures kind c) (in_turn block (first_instructions c)) _ (measures_wide kind c _)
    (turn_wide block (first_instructions c) _ (block_wide (is_augmented c) (cie_data c) _ (data_wide c)) (instructions_wide c.encoding c.data_alignment_factor c.instructions.items)))

pub fde_wide : (kind : FrameKind) (cie : ℕ) (c : CommonInformationEntry) (f : FrameDescriptionEntry) (at : ℕ) → IsWide (fde_contents kind cie c f at)
fde_wide kind cie c f at =
    let w = c.encoding.address_size in
    let block : Placed = only_if (is_augmented c) (entries.counted (lsda_part w c.lsda_encoding f.lsda)) in
    turn_wide (cie_pointer kind c.encoding.format cie) (in_turn (range_part c f) (in_turn block (instructions c f))) at (field_wide kind c.encoding.format cie at)
    (turn_wide (range_part c f) (in_turn block (instructions c f)) _ (range_wide c f _)
    (turn_wide block (instructions c f) _ (block_wide (is_augmented c) (lsda_part w c.lsda_encoding f.lsda) _ (lsda_wide w c.lsda_encoding f.lsda))
    (program_wide c.encoding c.code_alignment_factor c.data_alignment_factor 0 f.steps.items)))

-- A pointer takes ten bytes at most.
width_short : (w : ℕ) → IsTrue (is_width w) → w ≤ 8
width_short w h = grind (arith, nat_tests)

laid_short : (big : Bool) (layout : PointerLayout) (n : ℕ) (xs : List ℕ) → laid_out big layout n ≡ Some xs → length xs ≤ 10
unfolding num_text signed_text
laid_short big Uleb128 n xs e = let f : uleb n ≡ xs = cc in subst (λ (ys : List ℕ). length ys ≤ 10) f (uleb_short n)
laid_short big Sleb128 n xs e = let f : sleb (signed_of n) ≡ xs = cc in subst (λ (ys : List ℕ). length ys ≤ 10) f (sleb_short (signed_of n))
laid_short big (Unsigned w) n xs e =
    let p = some_if (is_width w && fits w n) (num big w n) xs e in
    omega (arith, length-num_text big w n xs e, width_short w (and_parts (is_width w) (fits w n) p.0).0)
laid_short big (Signed w) n xs e =
    let p = some_if (is_width w && signed_fits w (signed_of n)) (signed_num big w (signed_of n)) xs e in
    omega (arith, length-signed_text big w (signed_of n) xs e, width_short w (and_parts (is_width w) (signed_fits w (signed_of n)) p.0).0)

bound_short : (big : Bool) (layout : Option PointerLayout) (n : ℕ) (xs : List ℕ) → ◌≡◌ {A = Text} (layout >>= λ f. laid_out big f n) (Some xs) → length xs ≤ 10
bound_short big None n xs e = cc
bound_short big (Some f) n xs e = laid_short big f n xs e

pub data_short : (big : Bool) (size format n : ℕ) (xs : List ℕ) → data_text big size format n ≡ Some xs → length xs ≤ 10
unfolding data_text
data_short big size format n xs e = bound_short big (layout_by size format) n xs e

counted_short : (big : Bool) (size encoding : ℕ) (o : Option ℕ) (xs : List ℕ) → ◌≡◌ {A = Text} (o >>= data_text big size (format_of encoding)) (Some xs) → length xs ≤ 10
counted_short big size encoding None xs e = cc
counted_short big size encoding (Some n) xs e = data_short big size (format_of encoding) n xs e

pub pointer_short : (big : Bool) (size encoding place n : ℕ) (xs : List ℕ) → constant_pointer big size encoding place n ≡ Some xs → length xs ≤ 10
unfolding constant_pointer
pointer_short big size encoding place n xs e = counted_short big size encoding (counted encoding place n) xs e
