use Rattle.std.proofs.Common.{◌≡◌, ◌∙◌, subst, ◌<◌, length, true, false, ⊎_elim, Ok, Err, refl}
use Rattle.dw_base.specs.LineMachine.{Instruction}
use Rattle.dw_base.specs.Instructions.{instruction_at}
use Rattle.dw_read.specs.Reading.{Reading, left}
use Rattle.dw_read.specs.Took.{Took}
use Rattle.dw_read.proofs.Chain.{reads_of}
use Rattle.dw_read.proofs.Laws.{refuses}
use Rattle.dw_read_lines.specs.LineHeaderViews.{machine_of}
use Rattle.dw_read_lines.specs.LineInstructions.{instruction_read, extended_code}
use Rattle.dw_read_lines.specs.LineInstructionViews.{instruction_of, code_of}
use Rattle.dw_read_lines.proofs.InstructionLaws.{instruction_law}
use Rattle.dw_read_lines.proofs.instructions.LineInstructions.next_instruction.Goals as goal

pub returns-in-Ok : goal.returns-in-Ok
returns-in-Ok g c =
    let reading = g.R.Reader.reading in
    let old : Reading = reading c.args.self.now.input in
    let new : Reading = reading c.read_instruction.new.input in
    let m = λ (r : Reading). machine_of reading r.is_big c.args.header.now.parameters in
    let i = instruction_of reading c.in-Ok.instruction in
    let t = subst (λ (r : Reading). Took Instruction (instruction_read (m r)) r new i) c.duplicate-after.ensures c.in-Ok.ensures.ok in
    record {
      went_on = (c.if-self.false, c.if-self.false);
      instruction = reads_of Instruction (instruction_at (m old)) (instruction_read (m old)) old new i (instruction_law (m old)) t;
      code = subst (λ (r : Reading). extended_code r.is_big (left r) ≡ Ok (code_of c.in-Ok.instruction)) c.duplicate-after.ensures c.in-Ok.ensures.code;
      progress = subst (λ (r : Reading). r.place < new.place) c.duplicate-after.ensures c.in-Ok.ensures.progress;
    }

pub returns-in-Err : goal.returns-in-Err
returns-in-Err g c =
    let reading = g.R.Reader.reading in
    let old : Reading = reading c.args.self.now.input in
    let m = λ (r : Reading). machine_of reading r.is_big c.args.header.now.parameters in
    let e : instruction_read (m old) (left old) ≡ Err c.in-Err.error = subst (λ (r : Reading). instruction_read (m r) (left r) ≡ Err c.in-Err.error) c.duplicate-after.ensures c.in-Err.ensures.err in
    record {
      not_over = ⊎_elim (λ (f : c.args.self.now.has_failed ≡ true). let t : c.args.self.now.has_failed ≡ false = c.if-self.false in cc) (λ (z : length (left old) ≡ 0). c.if-len-eq0.false (c.len.ensures ∙ z));
      kept = refl;
      refused = refuses Instruction (instruction_at (m old)) (instruction_read (m old)) old _ (instruction_law (m old)) e;
    }
