-- An instruction that is spelled is read again, whatever follows it.
use Rattle.std.proofs.Common.{◌≡◌, ◌∙◌, sym, ap, ℕ, zero, suc, ◌+◌, ◌-◌, ◌^◌, ◌<◌, ◌≤◌, true, false, List, [], ◌∷◌, ◌++◌, length, Option, Some, refl, arith, All, IsTrue, nat_le, ◌==◌, append_assoc, append-nil, length-append}
use Rattle.std.specs.List.{flat_map}
use Rattle.std.proofs.lemmas.Bool.Decides.{nat_tests}
use Rattle.std.proofs.lemmas.List.Elements.{All-head, All-tail}
use Rattle.dw_base.specs.Numbers.{◌>>=◌, number_at, num, fits}
use Rattle.dw_base.specs.Leb128.{uleb_at, uleb, sleb}
use Rattle.dw_base.proofs.NumberLaws.{bind_is, bytes_at-again, number-fits-again, length-num}
use Rattle.dw_base.proofs.Leb128Laws.{uleb-again, uleb_short, sleb-again}
use Rattle.dw_base.specs.declared.constants.TheConstants.{DW_LNS_copy, DW_LNS_advance_pc, DW_LNS_advance_line, DW_LNS_set_file, DW_LNS_set_column, DW_LNS_negate_stmt, DW_LNS_set_basic_block, DW_LNS_const_add_pc, DW_LNS_fixed_advance_pc, DW_LNS_set_prologue_end, DW_LNS_set_epilogue_begin, DW_LNS_set_isa, DW_LNE_end_sequence, DW_LNE_set_address, DW_LNE_set_discriminator}
use Rattle.dw_base.specs.LineMachine.{LineHeader, Instruction, Copy, AdvancePc, AdvanceLine, SetFile, SetColumn, NegateStatement, SetBasicBlock, ConstAddPc, FixedAdvancePc, SetPrologueEnd, SetEpilogueBegin, SetIsa, Special, EndSequence, SetAddress, SetDiscriminator, Passed}
use Rattle.dw_base.specs.Instructions.{with, standard_at, extended_of, extended_at, instruction_at, instructions_at, extended_bytes, instruction_bytes, IsSpellable, IsWrittenHeader}

-- an operand that was read
with_is : {A : Type 0} (make : A → Instruction) (r : Option (A × List ℕ)) (v : A) (rest : List ℕ) → r ≡ Some (v, rest) → with make r ≡ Some (make v, rest)
with_is make r v rest e = ap (with make) e

-- a standard opcode
standard_read : (h : LineHeader) (opcode : ℕ) (bytes : List ℕ) → IsWrittenHeader h → 0 < opcode → opcode < 13 → instruction_at h (opcode ∷ bytes) ≡ standard_at h opcode bytes
unfolding instruction_at
standard_read h opcode bytes w lo hi =
    let e1 : opcode == 0 ≡ false = grind (arith, nat_tests) in
    let e2 : nat_le h.opcode_base opcode ≡ false = grind (arith, nat_tests, w.opcode_base) in
    rw e1 (rw e2 refl)

special_read : (h : LineHeader) (n : ℕ) (bytes : List ℕ) → IsWrittenHeader h → instruction_at h ((h.opcode_base + n) ∷ bytes) ≡ Some (Special n, bytes)
unfolding instruction_at
special_read h n bytes w =
    let e1 : h.opcode_base + n == 0 ≡ false = grind (arith, nat_tests, w.opcode_base) in
    let e2 : nat_le h.opcode_base (h.opcode_base + n) ≡ true = grind (arith, nat_tests) in
    let e3 : h.opcode_base + n - h.opcode_base ≡ n = omega arith in
    rw e1 (rw e2 (rw e3 refl))

-- an extended instruction
extended_read : (h : LineHeader) (code : ℕ) (operand rest : List ℕ) (i : Instruction) → length operand < 256 → extended_of h (code ∷ operand) ≡ Some i → instruction_at h (0 ∷ (extended_bytes code operand ++ rest)) ≡ Some (i, rest)
unfolding instruction_at extended_at
extended_read h code operand rest i short e =
    let regrouped : extended_bytes code operand ++ rest ≡ uleb (suc (length operand)) ++ ((code ∷ operand) ++ rest) = append_assoc (uleb (suc (length operand))) (code ∷ operand) rest in
    let e1 = uleb-again (suc (length operand)) ((code ∷ operand) ++ rest) (omega arith) in
    let e2 = bytes_at-again (code ∷ operand) rest in
    ap (extended_at h) regrouped ∙ bind_is _ _ _ e1 ∙ bind_is _ _ _ e2 ∙ bind_is _ _ _ e

address_of : (h : LineHeader) (w n : ℕ) → IsTrue (fits w n) → extended_of h (DW_LNE_set_address.0 ∷ num h.is_big w n) ≡ Some (SetAddress w n)
unfolding extended_of
address_of h w n small =
    let e = number-fits-again h.is_big w n [] small in
    let whole : num h.is_big w n ++ [] ≡ num h.is_big w n = append-nil _ in
    ap (λ k. number_at h.is_big k (num h.is_big w n) >>= λ x. Some (SetAddress k x.0)) (length-num h.is_big w n)
    ∙ ap (λ bs. number_at h.is_big w bs >>= λ x. Some (SetAddress w x.0)) (sym whole) ∙ bind_is _ _ _ e

discriminator_of : (h : LineHeader) (n : ℕ) → n < 2 ^ 64 → extended_of h (DW_LNE_set_discriminator.0 ∷ uleb n) ≡ Some (SetDiscriminator n)
unfolding extended_of
discriminator_of h n small =
    ap (λ bs. uleb_at bs >>= λ x. Some (SetDiscriminator x.0)) (sym (append-nil (uleb n))) ∙ bind_is _ _ _ (uleb-again n [] small)

end_of : (h : LineHeader) → extended_of h (DW_LNE_end_sequence.0 ∷ []) ≡ Some EndSequence
unfolding extended_of
end_of h = refl

pub instruction-again : (h : LineHeader) (i : Instruction) (rest : List ℕ) → IsWrittenHeader h → IsSpellable h i → instruction_at h (instruction_bytes h i ++ rest) ≡ Some (i, rest)
unfolding standard_at
instruction-again h Copy rest w s = standard_read h DW_LNS_copy.0 rest w (omega arith) (omega arith)
instruction-again h (AdvancePc n) rest w s = standard_read h DW_LNS_advance_pc.0 (uleb n ++ rest) w (omega arith) (omega arith) ∙ with_is AdvancePc _ _ _ (uleb-again n rest s)
instruction-again h (AdvanceLine z) rest w s = standard_read h DW_LNS_advance_line.0 (sleb z ++ rest) w (omega arith) (omega arith) ∙ with_is AdvanceLine _ _ _ (sleb-again z rest s)
instruction-again h (SetFile n) rest w s = standard_read h DW_LNS_set_file.0 (uleb n ++ rest) w (omega arith) (omega arith) ∙ with_is SetFile _ _ _ (uleb-again n rest s)
instruction-again h (SetColumn n) rest w s = standard_read h DW_LNS_set_column.0 (uleb n ++ rest) w (omega arith) (omega arith) ∙ with_is SetColumn _ _ _ (uleb-again n rest s)
instruction-again h NegateStatement rest w s = standard_read h DW_LNS_negate_stmt.0 rest w (omega arith) (omega arith)
instruction-again h SetBasicBlock rest w s = standard_read h DW_LNS_set_basic_block.0 rest w (omega arith) (omega arith)
instruction-again h ConstAddPc rest w s = standard_read h DW_LNS_const_add_pc.0 rest w (omega arith) (omega arith)
instruction-again h (FixedAdvancePc n) rest w s = standard_read h DW_LNS_fixed_advance_pc.0 (num h.is_big 2 n ++ rest) w (omega arith) (omega arith) ∙ with_is FixedAdvancePc _ _ _ (number-fits-again h.is_big 2 n rest s)
instruction-again h SetPrologueEnd rest w s = standard_read h DW_LNS_set_prologue_end.0 rest w (omega arith) (omega arith)
instruction-again h SetEpilogueBegin rest w s = standard_read h DW_LNS_set_epilogue_begin.0 rest w (omega arith) (omega arith)
instruction-again h (SetIsa n) rest w s = standard_read h DW_LNS_set_isa.0 (uleb n ++ rest) w (omega arith) (omega arith) ∙ with_is SetIsa _ _ _ (uleb-again n rest s)
instruction-again h (Special n) rest w s = special_read h n rest w
instruction-again h EndSequence rest w s = extended_read h DW_LNE_end_sequence.0 [] rest EndSequence (omega arith) (end_of h)
instruction-again h (SetAddress size n) rest w s = extended_read h DW_LNE_set_address.0 (num h.is_big size n) rest (SetAddress size n) (omega (arith, s.0, length-num h.is_big size n)) (address_of h size n s.1)
instruction-again h (SetDiscriminator n) rest w s = extended_read h DW_LNE_set_discriminator.0 (uleb n) rest (SetDiscriminator n) (omega (arith, uleb_short n)) (discriminator_of h n s)
instruction-again h Passed rest w s = absurd s

-- instructions that are spelled are read again, to the end
instructions-again : (fuel : ℕ) (h : LineHeader) (is : List Instruction) → IsWrittenHeader h → All (IsSpellable h) is → length is ≤ fuel → instructions_at fuel h (flat_map (instruction_bytes h) is) ≡ Some is
unfolding instructions_at
instructions-again fuel h [] w s le = refl
instructions-again zero h (i ∷ is) w s le = absurd (omega arith)
instructions-again (suc fuel) h (i ∷ is) w s le =
    bind_is _ _ (λ x. instructions_at fuel h x.1 >>= λ more. Some (x.0 ∷ more)) (instruction-again h i (flat_map (instruction_bytes h) is) w (All-head (IsSpellable h) i is s))
    ∙ bind_is _ _ _ (instructions-again fuel h is w (All-tail (IsSpellable h) i is s) (omega arith))

instructions_long : (h : LineHeader) (is : List Instruction) → length is ≤ length (flat_map (instruction_bytes h) is)
instructions_long h [] = omega arith
instructions_long h (i ∷ is) = omega (arith, instructions_long h is, length-append (instruction_bytes h i) (flat_map (instruction_bytes h) is))

pub program-again : (h : LineHeader) (is : List Instruction) → IsWrittenHeader h → All (IsSpellable h) is →
    instructions_at (length (flat_map (instruction_bytes h) is)) h (flat_map (instruction_bytes h) is) ≡ Some is
program-again h is w s = instructions-again _ h is w s (instructions_long h is)
