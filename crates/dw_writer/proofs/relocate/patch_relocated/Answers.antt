use Rattle.std.proofs.Common.{◌≡◌, ◌+◌, ◌≤◌, ◌++◌, ◌∙◌, ap, sym, subst, refl, to_z, of_z, w64}
use Rattle.std.proofs.Math.Facts.{to_z-of_z}
use Rattle.std.specs.Prelude.{OnOk, OnErr, IfErr, length}
use Rattle.dw_base.specs.declared.error.Error.TheVariants.{NoMemory}
use Rattle.dw_writer.specs.Texts.{zeros}
use Rattle.dw_writer.specs.Causes.{PlaceRefused, PatchRefused}
use Rattle.dw_writer.specs.Meaning.{IsSameWriter, ReplacesWith, ReplacesSomeWith}
use Rattle.dw_writer.specs.Relocating.{record_at}
use Rattle.dw_writer.proofs.Outcomes.{OnErr-always, IfErr-exit, IfErr-exit_as, IfErr-map}
use Rattle.dw_writer.proofs.Places.{length-zeros}
use Rattle.dw_writer.proofs.Refusals.{PlaceRefused-patch, PatchCause-inside}
use Rattle.dw_writer.proofs.Parts.{IsSameWriter-same, IfErr-kept, ReplacesSomeWith-none, Replaces-is, ReplacesSome-is}
use Rattle.dw_writer.proofs.Relocating.{behind, relocated_patch_ok, relocated_patch, relocated_same}
use Rattle.dw_writer.proofs.relocate.patch_relocated.Goals as goal

pub returns-in_err-check_place-clause-err : goal.returns-in_err-check_place-clause-err
returns-in_err-check_place-clause-err g c =
    let len_is = c.len.ensures ∙ ap (λ k. (g.T.Writer.Writer.meaning k).size) c.writer.ensures in
    let refused = subst (λ n. PlaceRefused n c.args.offset c.args.size c.in_err-check_place.field-0.0) len_is c.in_err-check_place.ensures.err in
    IfErr-exit c.from_residual.result (PatchRefused (g.T.Writer.Writer.meaning (g.T.RelocateWriter.inner c.args.w.now)) (g.T.Writer.Writer.meaning (g.T.RelocateWriter.inner c.args.w.now)) c.args.offset c.args.size) c.from_residual.ensures.1 (PlaceRefused-patch _ _ c.args.offset c.args.size _ refused)

pub returns-in_err-check_place-clause-partly : goal.returns-in_err-check_place-clause-partly
returns-in_err-check_place-clause-partly g c = OnErr-always c.from_residual.result (ReplacesSomeWith-none _ c.args.offset _ _)

pub returns-in_err-check_place-clause-outside : goal.returns-in_err-check_place-clause-outside
returns-in_err-check_place-clause-outside g c = IfErr-kept c.from_residual.result _ _ (OnErr-always c.from_residual.result refl)

pub returns-in_err-relocate-clause-err : goal.returns-in_err-relocate-clause-err
returns-in_err-relocate-clause-err g c =
    IfErr-exit_as c.from_residual-in_err-relocate.result _ _ NoMemory c.from_residual-in_err-relocate.ensures.1 c.in_err-relocate.ensures.err tt

pub returns-in_err-relocate-clause-partly : goal.returns-in_err-relocate-clause-partly
returns-in_err-relocate-clause-partly g c =
    let e = c.in_err-relocate.ensures in
    behind g.T.Writer.Writer.meaning (λ a b. OnErr c.from_residual-in_err-relocate.result (ReplacesSomeWith a b c.args.offset (zeros c.args.size) (record_at c.args.offset c.args.size c.args.target c.args.addend))) (g.T.RelocateWriter.relocations c.args.w.now) refl e.inner e.kept
    (OnErr-always c.from_residual-in_err-relocate.result (ReplacesSomeWith-none _ c.args.offset _ _))

pub returns-in_err-relocate-clause-outside : goal.returns-in_err-relocate-clause-outside
returns-in_err-relocate-clause-outside g c =
    IfErr-exit_as c.from_residual-in_err-relocate.result _ _ NoMemory c.from_residual-in_err-relocate.ensures.1 c.in_err-relocate.ensures.err tt

pub returns-in_err-relocate-clause-same : goal.returns-in_err-relocate-clause-same
returns-in_err-relocate-clause-same g c =
    let e = c.in_err-relocate.ensures in behind g.T.Writer.Writer.meaning IsSameWriter (g.T.RelocateWriter.relocations c.args.w.now) refl e.inner e.kept (IsSameWriter-same _)

pub returns-clause-ok : goal.returns-clause-ok
returns-clause-ok g c =
    let laws = g.met.T.RelocateWriter in
    let inner_is = laws.inner_with c.relocate.new.self c.write_at.new.self in
    let relocations_are = laws.relocations_with c.relocate.new.self c.write_at.new.self in
    let same = c.writer_mut.ensures.value ∙ c.in_ok-relocate.ensures.inner in
    let value : to_z w64 (of_z w64 c.args.addend) ≡ c.args.addend = to_z-of_z {w = w64} c.ranges.addend in
    let rs = g.T.RelocateWriter.relocations c.args.w.now in
    let more = record_at c.args.offset c.args.size c.args.target c.args.addend in
    let kept = c.in_ok-relocate.ensures.ok ∙ ap (λ z. rs ++ record_at c.args.offset c.args.size c.args.target z) value in
    behind g.T.Writer.Writer.meaning (λ a b. OnOk c.write_at.result (ReplacesWith a b c.args.offset (zeros c.args.size) more)) (g.T.RelocateWriter.relocations c.args.w.now) same inner_is relocations_are
    (relocated_patch_ok c.write_at.result _ _ rs _ more c.args.offset (zeros c.args.size) (Replaces-is c.write_at.result _ _ c.args.offset c.write_at.ensures.ok c.zero_bytes.ensures) kept)

pub returns-clause-partly : goal.returns-clause-partly
returns-clause-partly g c =
    let laws = g.met.T.RelocateWriter in
    let inner_is = laws.inner_with c.relocate.new.self c.write_at.new.self in
    let relocations_are = laws.relocations_with c.relocate.new.self c.write_at.new.self in
    let same = c.writer_mut.ensures.value ∙ c.in_ok-relocate.ensures.inner in
    let value : to_z w64 (of_z w64 c.args.addend) ≡ c.args.addend = to_z-of_z {w = w64} c.ranges.addend in
    let rs = g.T.RelocateWriter.relocations c.args.w.now in
    let more = record_at c.args.offset c.args.size c.args.target c.args.addend in
    let kept = c.in_ok-relocate.ensures.ok ∙ ap (λ z. rs ++ record_at c.args.offset c.args.size c.args.target z) value in
    behind g.T.Writer.Writer.meaning (λ a b. OnErr c.write_at.result (ReplacesSomeWith a b c.args.offset (zeros c.args.size) more)) (g.T.RelocateWriter.relocations c.args.w.now) same inner_is relocations_are
    (relocated_patch c.write_at.result _ _ rs _ more c.args.offset (zeros c.args.size) (ReplacesSome-is c.write_at.result _ _ c.args.offset c.write_at.ensures.partly c.zero_bytes.ensures) kept)

pub returns-clause-err : goal.returns-clause-err
returns-clause-err g c =
    let laws = g.met.T.RelocateWriter in
    let inner_is = laws.inner_with c.relocate.new.self c.write_at.new.self in
    let relocations_are = laws.relocations_with c.relocate.new.self c.write_at.new.self in
    let same = c.writer_mut.ensures.value ∙ c.in_ok-relocate.ensures.inner in
    let size = ap length c.zero_bytes.ensures ∙ length-zeros c.args.size in
    behind g.T.Writer.Writer.meaning (λ a b. IfErr c.write_at.result (PatchRefused a b c.args.offset c.args.size)) (g.T.RelocateWriter.relocations c.args.w.now) same inner_is relocations_are
    (subst (λ n. IfErr c.write_at.result (PatchRefused (g.T.Writer.Writer.meaning c.writer_mut.result.now) (g.T.Writer.Writer.meaning c.write_at.new.self) c.args.offset n)) size c.write_at.ensures.err)

pub returns-clause-outside : goal.returns-clause-outside
returns-clause-outside g c =
    let same = c.writer_mut.ensures.value ∙ c.in_ok-relocate.ensures.inner in
    let len_is = c.len.ensures ∙ ap (λ k. (g.T.Writer.Writer.meaning k).size) c.writer.ensures in
    let size = ap length c.zero_bytes.ensures ∙ length-zeros c.args.size in
    let room = subst (λ n. c.args.offset + c.args.size ≤ n) (len_is ∙ ap (λ k. (g.T.Writer.Writer.meaning k).size) (sym same)) c.in_ok-check_place.ensures.within in
    IfErr-map c.write_at.result (subst (λ n. IfErr c.write_at.result (PatchRefused (g.T.Writer.Writer.meaning c.writer_mut.result.now) (g.T.Writer.Writer.meaning c.write_at.new.self) c.args.offset n)) size c.write_at.ensures.err)
    (λ e. PatchCause-inside _ _ _ _ _ _ room e)

pub returns-clause-same : goal.returns-clause-same
returns-clause-same g c =
    let laws = g.met.T.RelocateWriter in
    let inner_is = laws.inner_with c.relocate.new.self c.write_at.new.self in
    let relocations_are = laws.relocations_with c.relocate.new.self c.write_at.new.self in
    let same = c.writer_mut.ensures.value ∙ c.in_ok-relocate.ensures.inner in
    behind g.T.Writer.Writer.meaning IsSameWriter (g.T.RelocateWriter.relocations c.args.w.now) same inner_is relocations_are (relocated_same _ _ _ _ c.write_at.ensures.same)
