use Rattle.std.proofs.Common.{◌≡◌, ◌∙◌, ◌<◌, subst, length, true, false, ⊎_elim, Err, refl}
use Rattle.dw_read.specs.Reading.{Reading, left}
use Rattle.dw_read.specs.Took.{Took}
use Rattle.dw_read.proofs.Chain.{reads_of}
use Rattle.dw_read.proofs.Laws.{refuses}
use Rattle.dw_read_frames.specs.Instructions.{Instruction, instruction_at, instruction_read}
use Rattle.dw_read_frames.specs.InstructionViews.{instruction_of, HoldsParts}
use Rattle.dw_read_frames.proofs.InstructionLaws.{instruction_law}
use Rattle.dw_read_frames.proofs.instructions.CallFrameInstructionIter.next.Goals as goal

pub returns-in-Ok : goal.returns-in-Ok
returns-in-Ok g c =
    let reading = g.R.Reader.reading in
    let old : Reading = reading c.args.self.now.input in
    let size = c.args.self.now.address_size in
    let e = c.args.self.now.address_encoding in
    let new : Reading = reading c.read_instruction.new.input in
    let x = c.in-Ok.instruction in
    let h : Took Instruction (instruction_read old.is_big size e old.end) old new (instruction_of reading x) = subst (λ (r : Reading). Took Instruction (instruction_read r.is_big size e r.end) r new (instruction_of reading x)) c.duplicate-after.ensures c.in-Ok.ensures.ok in
    record {
      went_on = (c.if-self.false, c.if-self.false);
      size = refl;
      encoding = refl;
      instruction = reads_of Instruction (instruction_at old.is_big size e old.end) (instruction_read old.is_big size e old.end) _ _ _ (instruction_law old.is_big size e old.end) h;
      parts = subst (λ (r : Reading). HoldsParts reading r x) c.duplicate-after.ensures c.in-Ok.ensures.parts;
      progress = subst (λ (r : Reading). r.place < new.place) c.duplicate-after.ensures c.in-Ok.ensures.progress;
    }

pub returns-in-Err : goal.returns-in-Err
returns-in-Err g c =
    let old : Reading = g.R.Reader.reading c.args.self.now.input in
    let size = c.args.self.now.address_size in
    let e = c.args.self.now.address_encoding in
    let r : instruction_read old.is_big size e old.end (left old) ≡ Err c.in-Err.error = subst (λ (x : Reading). instruction_read x.is_big size e x.end (left x) ≡ Err c.in-Err.error) c.duplicate-after.ensures c.in-Err.ensures.err in
    record {
      not_over = ⊎_elim (λ (f : c.args.self.now.has_failed ≡ true). let t : c.args.self.now.has_failed ≡ false = c.if-self.false in cc) (λ (z : length (left old) ≡ 0). c.if-len-eq0.false (c.len.ensures ∙ z));
      kept = refl;
      refused = refuses Instruction (instruction_at old.is_big size e old.end) (instruction_read old.is_big size e old.end) old _ (instruction_law old.is_big size e old.end) r;
    }
