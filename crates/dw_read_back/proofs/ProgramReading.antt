-- Programs of call frame instructions that are written are read again.
use Rattle.std.specs.Prelude.{◌≡◌, ℕ, zero, suc, ◌^◌, ◌<◌, ◌==◌, Bool, true, false, List, [], ◌∷◌, ◌++◌, length, Option, Some, ℤ, refl}
use Rattle.std.proofs.Common.{sym, ◌∙◌, ap, subst, arith, append_assoc, length-append}
use Rattle.std.proofs.lemmas.Bool.{eqb-true, eq-eqb}
use Rattle.dw_base.specs.declared.common.Encoding.{Encoding}
use Rattle.dw_base.specs.declared.constants.DwEhPe.{DwEhPe}
use Rattle.dw_writer.specs.Texts.{zeros}
use Rattle.dw_writer.specs.Meaning.{Layout}
use Rattle.dw_expr.specs.Trees.{Node}
use Rattle.dw_frame_instructions.specs.Advances.{advance_piece}
use Rattle.dw_frame_instructions.specs.Instructions.{instruction_piece}
use Rattle.dw_frame_instructions.specs.Pieces.{both}
use Rattle.dw_frame_instructions.specs.Programs.{instructions_piece, program_piece}
use Rattle.dw_frame_instructions.specs.declared.instruction.CallFrameInstruction.{CallFrameInstruction}
use Rattle.dw_frame_instructions.specs.declared.instruction.CallFrameInstruction.TheVariants as built
use Rattle.dw_frame_instructions.specs.declared.program.Step.{Step}
use Rattle.dw_frame.proofs.TextParts.{split}
use Rattle.dw_read_frames.specs.Instructions.{Instruction, instruction_at}
use Rattle.dw_read_frames.specs.Instructions as read
use Rattle.dw_read_back.specs.Instructions.{Means, ReadsAs, Advances, spelled_in}
use Rattle.dw_read_back.specs.Programs.{holding, AreSteps, AreFirst, StepsHaveWidths, HaveWidths, ReadsProgram, ProgramReadsBack, FirstReadBack}
use Rattle.dw_read_back.proofs.InstructionReading.{instruction_back}
use Rattle.dw_read_back.proofs.AdvanceReading.{nop_back, advance_back}

module _ (factor : ℤ) (spelled : List Node → Option (List ℕ)) where
  -- no instruction is built that is read as an advance or as padding
  moves : (i : CallFrameInstruction) (delta : ℕ) → Means factor spelled i (read.AdvanceLoc delta) → ⊥
  moves (built.Cfa r offset) delta h = h
  moves i delta h = h

  pads : (i : CallFrameInstruction) → Means factor spelled i read.Nop → ⊥
  pads (built.Cfa r offset) h = h
  pads i h = h

  -- one that was built holds where it stands
  holds_here : (code_factor at : ℕ) (i : CallFrameInstruction) (x : Instruction) (xs : List Instruction) → Means factor spelled i x → holding code_factor at (x ∷ xs) ≡ (at, x) ∷ holding code_factor at xs
  holds_here code_factor at i (read.AdvanceLoc delta) xs h = absurd (moves i delta h)
  holds_here code_factor at i read.Nop xs h = absurd (pads i h)
  holds_here code_factor at i x xs h = refl

module _ (e : Encoding) (big : Bool) (l : Layout) (size end : ℕ) (pointers : DwEhPe) (code_factor : ℕ) (data_factor : ℤ) where
  abbrev Back : List Step → ℕ → List ℕ → Type 0
  Back steps from bytes = ReadsProgram (AreSteps data_factor (spelled_in e big l) steps) (instruction_at big size pointers end) code_factor from bytes

  padding_back : (n from : ℕ) → Back [] from (zeros n)
  padding_back zero from = record { instructions = []; read = refl; are = tt }
  padding_back (suc n) from =
      let more = padding_back n from in
      record { instructions = read.Nop ∷ more.instructions; read = (zeros n, nop_back big l size end pointers (zeros n), more.read); are = more.are }

  -- an advance before a program
  advanced : (s : Step) (ss : List Step) (from : ℕ) (bytes rest : List ℕ) (x : Instruction) → Advances code_factor from s.offset x → instruction_at big size pointers end bytes ≡ Some (x, rest) →
      Back (s ∷ ss) s.offset rest → Back (s ∷ ss) from bytes
  advanced s ss from bytes rest (read.AdvanceLoc delta) h is more = record {
    instructions = read.AdvanceLoc delta ∷ more.instructions;
    read = (rest, is, more.read);
    are = subst (λ n. AreSteps data_factor (spelled_in e big l) (s ∷ ss) (holding code_factor n more.instructions)) (sym h) more.are;
  }
  advanced s ss from bytes rest x h is more = absurd h

  program_back : (steps : List Step) (from padding : ℕ) (bytes : List ℕ) → StepsHaveWidths steps → (program_piece e code_factor data_factor from steps).text big l ≡ Some bytes → length bytes < 2 ^ 64 →
      Back steps from (bytes ++ zeros padding)
  unfolding both
  program_back [] from padding bytes widths text long =
      let none : [] ≡ bytes = cc in
      subst (λ ys. Back [] from (ys ++ zeros padding)) none (padding_back padding from)
  program_back (s ∷ ss) from padding bytes widths text long =
      let a = split ((advance_piece code_factor from s.offset).text big l) _ bytes text in
      let b = split ((instruction_piece e data_factor s.instruction).text big l) ((program_piece e code_factor data_factor s.offset ss).text big l) a.ys a.second in
      let tail = b.ys ++ zeros padding in
      let sizes = length-append a.xs a.ys in
      let more_sizes = length-append b.xs b.ys in
      let i = instruction_back e data_factor s.instruction widths.0 big l size end pointers b.xs b.first (omega (arith, long, ap length a.whole, sizes, ap length b.whole, more_sizes)) in
      let more = program_back ss s.offset padding b.ys widths.2 b.second (omega (arith, long, ap length a.whole, sizes, ap length b.whole, more_sizes)) in
      let here : Back (s ∷ ss) s.offset (b.xs ++ tail) = record {
        instructions = i.instruction ∷ more.instructions;
        read = (tail, i.read tail, more.read);
        are = subst (AreSteps data_factor (spelled_in e big l) (s ∷ ss)) (sym (holds_here data_factor (spelled_in e big l) code_factor s.offset s.instruction i.instruction more.instructions i.meant)) (refl, i.meant, more.are);
      } in
      let apart : bytes ++ zeros padding ≡ a.xs ++ (b.xs ++ tail) =
      ap (λ ys. ys ++ zeros padding) a.whole ∙ append_assoc a.xs a.ys (zeros padding)
      ∙ ap (λ ys. a.xs ++ (ys ++ zeros padding)) b.whole ∙ ap (λ ys. a.xs ++ ys) (append_assoc b.xs b.ys (zeros padding)) in
      let way = advance_back code_factor from s.offset widths.1 big l size end pointers a.xs a.first in
      subst (Back (s ∷ ss) from) (sym apart) (by_test s ss from a.xs (b.xs ++ tail) (s.offset == from) refl way.0 way.1 here)
    where
      by_test : (s : Step) (ss : List Step) (from : ℕ) (xs rest : List ℕ) (t : Bool) → (s.offset == from) ≡ t → (s.offset ≡ from → xs ≡ []) →
          ((s.offset ≡ from → ⊥) → ReadsAs (Advances code_factor from s.offset) (instruction_at big size pointers end) xs) → Back (s ∷ ss) s.offset rest → Back (s ∷ ss) from (xs ++ rest)
      by_test s ss from xs rest true is stays goes more =
          let same : s.offset ≡ from = eqb-true s.offset from is in
          subst (λ ys. Back (s ∷ ss) from (ys ++ rest)) (sym (stays same)) (subst (λ n. Back (s ∷ ss) n rest) same more)
      by_test s ss from xs rest false is stays goes more =
          let way = goes (λ same. let k : true ≡ false = sym (eq-eqb s.offset from same) ∙ is in cc) in
          advanced s ss from (xs ++ rest) rest way.instruction way.meant (way.read rest) more

  -- the program of a CIE
  abbrev First : List CallFrameInstruction → List ℕ → Type 0
  First is bytes = ReadsProgram (AreFirst data_factor (spelled_in e big l) is) (instruction_at big size pointers end) code_factor 0 bytes

  first_padding : (n : ℕ) → First [] (zeros n)
  first_padding zero = record { instructions = []; read = refl; are = tt }
  first_padding (suc n) =
      let more = first_padding n in
      record { instructions = read.Nop ∷ more.instructions; read = (zeros n, nop_back big l size end pointers (zeros n), more.read); are = more.are }

  first_back : (is : List CallFrameInstruction) (padding : ℕ) (bytes : List ℕ) → HaveWidths is → (instructions_piece e data_factor is).text big l ≡ Some bytes → length bytes < 2 ^ 64 → First is (bytes ++ zeros padding)
  unfolding both
  first_back [] padding bytes widths text long =
      let none : [] ≡ bytes = cc in
      subst (λ ys. First [] (ys ++ zeros padding)) none (first_padding padding)
  first_back (i ∷ is) padding bytes widths text long =
      let b = split ((instruction_piece e data_factor i).text big l) ((instructions_piece e data_factor is).text big l) bytes text in
      let tail = b.ys ++ zeros padding in
      let sizes = length-append b.xs b.ys in
      let x = instruction_back e data_factor i widths.0 big l size end pointers b.xs b.first (omega (arith, long, ap length b.whole, sizes)) in
      let more = first_back is padding b.ys widths.1 b.second (omega (arith, long, ap length b.whole, sizes)) in
      let apart : bytes ++ zeros padding ≡ b.xs ++ tail = ap (λ ys. ys ++ zeros padding) b.whole ∙ append_assoc b.xs b.ys (zeros padding) in
      subst (First (i ∷ is)) (sym apart) (record {
        instructions = x.instruction ∷ more.instructions;
        read = (tail, x.read tail, more.read);
        are = subst (AreFirst data_factor (spelled_in e big l) (i ∷ is)) (sym (holds_here data_factor (spelled_in e big l) code_factor 0 i x.instruction more.instructions x.meant)) (refl, x.meant, more.are);
      })

pub steps_back : (e : Encoding) (code_factor : ℕ) (data_factor : ℤ) (steps : List Step) → ProgramReadsBack e code_factor data_factor steps
steps_back e code_factor data_factor steps big l size end pointers padding bytes widths text long = program_back e big l size end pointers code_factor data_factor steps 0 padding bytes widths text long

pub instructions_back : (e : Encoding) (code_factor : ℕ) (data_factor : ℤ) (is : List CallFrameInstruction) → FirstReadBack e code_factor data_factor is
instructions_back e code_factor data_factor is big l size end pointers padding bytes widths text long = first_back e big l size end pointers code_factor data_factor is padding bytes widths text long
