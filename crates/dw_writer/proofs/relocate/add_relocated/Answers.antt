use Rattle.std.proofs.Common.{◌≡◌, ◌++◌, ◌∙◌, ap, refl, to_z, of_z, w64}
use Rattle.std.proofs.Math.Facts.{to_z-of_z}
use Rattle.std.specs.Prelude.{OnOk, IfErr}
use Rattle.dw_base.specs.declared.error.Error.TheVariants.{NoMemory}
use Rattle.dw_writer.specs.Texts.{zeros}
use Rattle.dw_writer.specs.Causes.{BytesRefused}
use Rattle.dw_writer.specs.Meaning.{IsSameWriter, AddsWith, AddsSomeWith}
use Rattle.dw_writer.specs.Relocating.{record_by}
use Rattle.dw_writer.proofs.Outcomes.{IfErr-exit_as}
use Rattle.dw_writer.proofs.Parts.{IsSameWriter-same, Adds-is, AddsSome-is, AddsSomeWith-none}
use Rattle.dw_writer.proofs.Relocating.{behind, relocated_ok, relocated_either, relocated_same}
use Rattle.dw_writer.proofs.relocate.add_relocated.Goals as goal

pub returns-in_err-relocate-clause-err : goal.returns-in_err-relocate-clause-err
returns-in_err-relocate-clause-err g c = IfErr-exit_as c.from_residual.result _ _ NoMemory c.from_residual.ensures.1 c.in_err-relocate.ensures.err tt

pub returns-in_err-relocate-clause-partly : goal.returns-in_err-relocate-clause-partly
returns-in_err-relocate-clause-partly g c =
    let e = c.in_err-relocate.ensures in
    behind g.T.Writer.Writer.meaning (λ a b. AddsSomeWith a b (zeros c.args.size) (record_by c.args.eh_pe (g.T.Writer.Writer.meaning (g.T.RelocateWriter.inner c.args.w.now)).size c.args.size c.args.target c.args.addend)) (g.T.RelocateWriter.relocations c.args.w.now) refl e.inner e.kept (AddsSomeWith-none _ _ _)

pub returns-in_err-relocate-clause-same : goal.returns-in_err-relocate-clause-same
returns-in_err-relocate-clause-same g c =
    let e = c.in_err-relocate.ensures in behind g.T.Writer.Writer.meaning IsSameWriter (g.T.RelocateWriter.relocations c.args.w.now) refl e.inner e.kept (IsSameWriter-same _)

pub returns-clause-ok : goal.returns-clause-ok
returns-clause-ok g c =
    let laws = g.met.T.RelocateWriter in
    let inner_is = laws.inner_with c.relocate.new.self c.write.new.self in
    let relocations_are = laws.relocations_with c.relocate.new.self c.write.new.self in
    let same = c.writer_mut.ensures.value ∙ c.in_ok-relocate.ensures.inner in
    let place = c.len-offset.ensures ∙ ap (λ k. (g.T.Writer.Writer.meaning k).size) c.writer.ensures in
    let value : to_z w64 (of_z w64 c.args.addend) ≡ c.args.addend = to_z-of_z {w = w64} c.ranges.addend in
    let rs = g.T.RelocateWriter.relocations c.args.w.now in
    let more = record_by c.args.eh_pe (g.T.Writer.Writer.meaning (g.T.RelocateWriter.inner c.args.w.now)).size c.args.size c.args.target c.args.addend in
    let kept = c.in_ok-relocate.ensures.ok ∙ ap (λ p. rs ++ record_by c.args.eh_pe p c.args.size c.args.target (to_z w64 (of_z w64 c.args.addend))) place ∙ ap (λ z. rs ++ record_by c.args.eh_pe (g.T.Writer.Writer.meaning (g.T.RelocateWriter.inner c.args.w.now)).size c.args.size c.args.target z) value in
    behind g.T.Writer.Writer.meaning (λ a b. OnOk c.write.result (AddsWith a b (zeros c.args.size) more)) (g.T.RelocateWriter.relocations c.args.w.now) same inner_is relocations_are
    (relocated_ok c.write.result _ _ rs _ more (zeros c.args.size) (Adds-is c.write.result _ _ c.write.ensures.ok c.zero_bytes.ensures) kept)

pub returns-clause-partly : goal.returns-clause-partly
returns-clause-partly g c =
    let laws = g.met.T.RelocateWriter in
    let inner_is = laws.inner_with c.relocate.new.self c.write.new.self in
    let relocations_are = laws.relocations_with c.relocate.new.self c.write.new.self in
    let same = c.writer_mut.ensures.value ∙ c.in_ok-relocate.ensures.inner in
    let place = c.len-offset.ensures ∙ ap (λ k. (g.T.Writer.Writer.meaning k).size) c.writer.ensures in
    let value : to_z w64 (of_z w64 c.args.addend) ≡ c.args.addend = to_z-of_z {w = w64} c.ranges.addend in
    let rs = g.T.RelocateWriter.relocations c.args.w.now in
    let more = record_by c.args.eh_pe (g.T.Writer.Writer.meaning (g.T.RelocateWriter.inner c.args.w.now)).size c.args.size c.args.target c.args.addend in
    let kept = c.in_ok-relocate.ensures.ok ∙ ap (λ p. rs ++ record_by c.args.eh_pe p c.args.size c.args.target (to_z w64 (of_z w64 c.args.addend))) place ∙ ap (λ z. rs ++ record_by c.args.eh_pe (g.T.Writer.Writer.meaning (g.T.RelocateWriter.inner c.args.w.now)).size c.args.size c.args.target z) value in
    behind g.T.Writer.Writer.meaning (λ a b. AddsSomeWith a b (zeros c.args.size) more) (g.T.RelocateWriter.relocations c.args.w.now) same inner_is relocations_are
    (relocated_either c.write.result _ _ rs _ more (zeros c.args.size) (Adds-is c.write.result _ _ c.write.ensures.ok c.zero_bytes.ensures) (AddsSome-is c.write.result _ _ c.write.ensures.partly c.zero_bytes.ensures) kept)

pub returns-clause-err : goal.returns-clause-err
returns-clause-err g c =
    let laws = g.met.T.RelocateWriter in
    let inner_is = laws.inner_with c.relocate.new.self c.write.new.self in
    let relocations_are = laws.relocations_with c.relocate.new.self c.write.new.self in
    let same = c.writer_mut.ensures.value ∙ c.in_ok-relocate.ensures.inner in
    behind g.T.Writer.Writer.meaning (λ a b. IfErr c.write.result (BytesRefused a b)) (g.T.RelocateWriter.relocations c.args.w.now) same inner_is relocations_are c.write.ensures.err

pub returns-clause-same : goal.returns-clause-same
returns-clause-same g c =
    let laws = g.met.T.RelocateWriter in
    let inner_is = laws.inner_with c.relocate.new.self c.write.new.self in
    let relocations_are = laws.relocations_with c.relocate.new.self c.write.new.self in
    let same = c.writer_mut.ensures.value ∙ c.in_ok-relocate.ensures.inner in
    behind g.T.Writer.Writer.meaning IsSameWriter (g.T.RelocateWriter.relocations c.args.w.now) same inner_is relocations_are (relocated_same _ _ _ _ c.write.ensures.same)
