use Rattle.std.specs.Prelude.{OnOk, OnErr, IfErr, length}
use Rattle.dw_writer.specs.Causes.{PatchRefused, KeptOutside}
use Rattle.dw_writer.specs.Meaning.{IsSameWriter, Replaces, ReplacesSome}
use Rattle.dw_writer.proofs.Outcomes.{OnOk-map, OnErr-map, IfErr-map}
use Rattle.dw_writer.proofs.Relocating.{relocated_by, relocated_replaces, relocated_replaces_some, relocated_kept, relocated_same}
use Rattle.dw_writer.proofs.relocate.AnyWriter.write_at.Goals as goal

pub returns-clause-same : goal.returns-clause-same
returns-clause-same g c =
    let laws = g.met.T.RelocateWriter in
    relocated_by g.T.Writer.Writer.meaning IsSameWriter (λ a b rs h. relocated_same a b rs rs h)
    c.writer_mut.ensures.value (laws.inner_with c.args.self.now c.write_at.new.self) (laws.relocations_with c.args.self.now c.write_at.new.self) c.write_at.ensures.same

pub returns-clause-ok : goal.returns-clause-ok
returns-clause-ok g c =
    let laws = g.met.T.RelocateWriter in
    relocated_by g.T.Writer.Writer.meaning (λ a b. OnOk c.write_at.result (Replaces a b c.args.offset c.args.bytes.now))
    (λ a b rs h. OnOk-map c.write_at.result h (relocated_replaces c.args.offset c.args.bytes.now a b rs))
    c.writer_mut.ensures.value (laws.inner_with c.args.self.now c.write_at.new.self) (laws.relocations_with c.args.self.now c.write_at.new.self) c.write_at.ensures.ok

pub returns-clause-err : goal.returns-clause-err
returns-clause-err g c =
    let laws = g.met.T.RelocateWriter in
    relocated_by g.T.Writer.Writer.meaning (λ a b. IfErr c.write_at.result (PatchRefused a b c.args.offset (length c.args.bytes.now))) (λ a b rs h. h)
    c.writer_mut.ensures.value (laws.inner_with c.args.self.now c.write_at.new.self) (laws.relocations_with c.args.self.now c.write_at.new.self) c.write_at.ensures.err

pub returns-clause-outside : goal.returns-clause-outside
returns-clause-outside g c =
    let laws = g.met.T.RelocateWriter in
    relocated_by g.T.Writer.Writer.meaning (λ a b. IfErr c.write_at.result (KeptOutside a b)) (λ a b rs h. IfErr-map c.write_at.result h (relocated_kept a b rs))
    c.writer_mut.ensures.value (laws.inner_with c.args.self.now c.write_at.new.self) (laws.relocations_with c.args.self.now c.write_at.new.self) c.write_at.ensures.outside

pub returns-clause-partly : goal.returns-clause-partly
returns-clause-partly g c =
    let laws = g.met.T.RelocateWriter in
    relocated_by g.T.Writer.Writer.meaning (λ a b. OnErr c.write_at.result (ReplacesSome a b c.args.offset c.args.bytes.now))
    (λ a b rs h. OnErr-map c.write_at.result h (relocated_replaces_some c.args.offset c.args.bytes.now a b rs))
    c.writer_mut.ensures.value (laws.inner_with c.args.self.now c.write_at.new.self) (laws.relocations_with c.args.self.now c.write_at.new.self) c.write_at.ensures.partly
