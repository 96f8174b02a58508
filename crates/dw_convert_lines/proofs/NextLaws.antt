-- The next instruction of a program that is read.
use Rattle.std.proofs.Common.{◌≡◌, ◌∙◌, sym, ap, subst, ⊎_elim, ℕ, ◌+◌, Bool, true, false, List, [], ◌∷◌, length, Option, Some, None, Result, Ok, Err, refl, arith, IsTrue, true≢false}
use Rattle.std.specs.Prelude.{◌↔◌}
use Rattle.dw_base.specs.declared.constants.TheConstants.{DW_LNE_define_file}
use Rattle.dw_base.specs.declared.address.Address.{Address}
use Rattle.dw_base.specs.declared.ids.FileId.{FileId}
use Rattle.dw_base.specs.Instructions.{instruction_at}
use Rattle.dw_base.specs.LineMachine.{LineHeader, Registers, Instruction}
use Rattle.dw_line.specs.LinePrograms.{LineProgramValue}
use Rattle.dw_line.specs.ProgramTexts.{ProgramValue}
use Rattle.dw_read.specs.Reading.{Reading, IsReading, left}
use Rattle.dw_read.specs.declared.error.ReadError.{ReadError}
use Rattle.dw_read.proofs.Lefts.{shorter, same_order}
use Rattle.dw_read_lines.specs.LineHeaderViews.{machine_of}
use Rattle.dw_read_lines.specs.LineInstructionIters.{IsOver, PassesInstruction, RefusesInstruction, ReadsInstruction}
use Rattle.dw_read_lines.specs.LineInstructions.{instruction_read, extended_code}
use Rattle.dw_read_lines.specs.LineInstructionViews.{instruction_of, code_of}
use Rattle.dw_read_lines.specs.declared.header.LineProgramHeader.{LineProgramHeader}
use Rattle.dw_read_lines.specs.declared.instruction.LineInstruction.{LineInstruction}
use Rattle.dw_read_lines.specs.declared.instructions.LineInstructions.{LineInstructions}
use Rattle.dw_sources.specs.declared.convert_error.ConvertError.{ConvertError}
use Rattle.dw_convert_lines.specs.ReadRows.{DefinesFile, IsNext}
use Rattle.dw_convert_lines.specs.RowOutcomes.{Follows, Reached, RefusesNext, Changes, Refuses}
use Rattle.dw_convert_lines.specs.RowOutcomes.{RefusesInstruction as RefusesRead}
use Rattle.dw_convert_lines.proofs.ReachedLaws.{reached_more}

pub not_known : (b : Bool) (P : Type 0) → (IsTrue b ↔ P) → b ≡ false → P → ⊥
not_known b P e f p = true≢false (sym (e.1 p) ∙ f)

no_bytes : (xs : List ℕ) → length xs ≡ 0 → xs ≡ []
no_bytes [] h = refl
no_bytes (x ∷ xs) h = absurd (omega arith)

module _ (R E : Type 0) (reading : R → Reading) (h : LineProgramHeader R E) (old new : LineInstructions R E) where
  pub passed : (o : Option (LineInstruction R E)) (x : LineInstruction R E) → ReadsInstruction reading h old new (Ok o) → o ≡ Some x → PassesInstruction reading h old new x
  passed o x r e = subst (λ (p : Option (LineInstruction R E)). ReadsInstruction reading h old new (Ok p)) e r

  pub at_end : (o : Option (LineInstruction R E)) → ReadsInstruction reading h old new (Ok o) → o ≡ None → old.has_failed ≡ false → left (reading old.input) ≡ []
  at_end o r e f =
      let k : (new ≡ old) × IsOver reading h old new = subst (λ (p : Option (LineInstruction R E)). ReadsInstruction reading h old new (Ok p)) e r in
      ⊎_elim (λ (t : old.has_failed ≡ true). absurd (true≢false (sym t ∙ f))) (λ (z : length (left (reading old.input)) ≡ 0). no_bytes (left (reading old.input)) z) k.1

  module _ (big : Bool) (order : (reading old.input).is_big ≡ big) where
    pub is_next : (i : LineInstruction R E) → IsReading (reading old.input) → IsReading (reading new.input) → PassesInstruction reading h old new i → (code_of i ≡ Some DW_LNE_define_file.0 → ⊥)
        → IsNext (machine_of reading big h.parameters) (left (reading old.input)) (instruction_of reading i) (left (reading new.input))
    is_next i a b p known =
        let n : ℕ = p.instruction.count in
        let l = shorter n (reading old.input) (reading new.input) a b p.instruction.passes in
        let q : (reading new.input).place ≡ (reading old.input).place + n = ap (λ (r : Reading). r.place) p.instruction.passes.is in
        let g = p.progress in
        record {
          value = subst (λ (c : Bool). instruction_at (machine_of reading c h.parameters) (left (reading old.input)) ≡ Some (instruction_of reading i, left (reading new.input))) order p.instruction.value;
          shorter = omega (arith, l, q, g);
          known = λ (d : DefinesFile (machine_of reading big h.parameters) (left (reading old.input))).
              let c : extended_code big (left (reading old.input)) ≡ Ok (code_of i) = subst (λ (c : Bool). extended_code c (left (reading old.input)) ≡ Ok (code_of i)) order p.code in
              let e : code_of i ≡ Some DW_LNE_define_file.0 = cc in
              known e;
        }

    pub defines : (i : LineInstruction R E) → PassesInstruction reading h old new i → code_of i ≡ Some DW_LNE_define_file.0 → DefinesFile (machine_of reading big h.parameters) (left (reading old.input))
    defines i p e =
        subst (λ (c : Bool). extended_code c (left (reading old.input)) ≡ Ok (code_of i)) order p.code ∙ ap (λ (o : Option ℕ). ok o) e where
          ok : Option ℕ → Result (Option ℕ) ReadError
          ok o = Ok o

    pub refused : (e : ReadError) → RefusesInstruction reading h old new e → instruction_read (machine_of reading big h.parameters) (left (reading old.input)) ≡ Err e
    refused e r = subst (λ (c : Bool). instruction_read (machine_of reading c h.parameters) (left (reading old.input)) ≡ Err e) order r.refused.reason

    pub order_kept : (i : LineInstruction R E) → PassesInstruction reading h old new i → (reading new.input).is_big ≡ big
    order_kept i p = same_order p.instruction.count (reading old.input) (reading new.input) p.instruction.passes ∙ order

module _ (h : LineHeader) (version : ℕ) (ids : List FileId) (answers : ℕ → Option Address → Type 0) (bytes : List ℕ) (old : ProgramValue) (rest : List ℕ) (r : Registers) (base : Option ℕ) (p : ProgramValue) (v : LineProgramValue) (a : Reached h version ids answers bytes old rest r base p) (there : v.program ≡ Some p) where
  same_program : (x : ProgramValue) → v.program ≡ Some x → x ≡ p
  same_program x e = let k : Some x ≡ Some p = sym e ∙ there in cc

  pub next_reached : (next : List ℕ) (i : Instruction) (left : Registers) (behind : Option ℕ) (w : LineProgramValue) → IsNext h rest i next → (c : Changes (λ (x : ProgramValue) (q : ProgramValue). Follows h version ids answers i r base x left behind q) v w)
      → Reached h version ids answers bytes old next left behind c.after
  next_reached next i left behind w n c =
      reached_more h version ids answers bytes old rest next r base p a i n left behind c.after (subst (λ (x : ProgramValue). Follows h version ids answers i r base x left behind c.after) (same_program c.before c.was) c.does)

  pub next_refused : (next : List ℕ) (i : Instruction) (e : ConvertError) → IsNext h rest i next → Refuses (λ (x : ProgramValue). RefusesRead h version ids answers i r base x e) v → RefusesNext h version ids answers rest r base p e
  next_refused next i e n c = record {
    instruction = i;
    next = next;
    read = n;
    cause = subst (λ (x : ProgramValue). RefusesRead h version ids answers i r base x e) (same_program c.before c.was) c.fails;
  }
