use Rattle.std.specs.Prelude.{OnOk, OnErr, IfErr}
use Rattle.dw_writer.specs.Causes.{BytesRefused}
use Rattle.dw_writer.specs.Meaning.{IsSameWriter, Adds, AddsSome}
use Rattle.dw_writer.proofs.Outcomes.{OnOk-map, OnErr-map}
use Rattle.dw_writer.proofs.Relocating.{relocated_by, relocated, relocated_some, relocated_same}
use Rattle.dw_writer.proofs.relocate.AnyWriter.write.Goals as goal

pub returns-clause-same : goal.returns-clause-same
returns-clause-same g c =
    let laws = g.met.T.RelocateWriter in
    relocated_by g.T.Writer.Writer.meaning IsSameWriter (λ a b rs h. relocated_same a b rs rs h)
    c.writer_mut.ensures.value (laws.inner_with c.args.self.now c.write.new.self) (laws.relocations_with c.args.self.now c.write.new.self) c.write.ensures.same

pub returns-clause-ok : goal.returns-clause-ok
returns-clause-ok g c =
    let laws = g.met.T.RelocateWriter in
    relocated_by g.T.Writer.Writer.meaning (λ a b. OnOk c.write.result (Adds a b c.args.bytes.now)) (λ a b rs h. OnOk-map c.write.result h (relocated a b rs c.args.bytes.now))
    c.writer_mut.ensures.value (laws.inner_with c.args.self.now c.write.new.self) (laws.relocations_with c.args.self.now c.write.new.self) c.write.ensures.ok

pub returns-clause-err : goal.returns-clause-err
returns-clause-err g c =
    let laws = g.met.T.RelocateWriter in
    relocated_by g.T.Writer.Writer.meaning (λ a b. IfErr c.write.result (BytesRefused a b)) (λ a b rs h. h)
    c.writer_mut.ensures.value (laws.inner_with c.args.self.now c.write.new.self) (laws.relocations_with c.args.self.now c.write.new.self) c.write.ensures.err

pub returns-clause-partly : goal.returns-clause-partly
returns-clause-partly g c =
    let laws = g.met.T.RelocateWriter in
    relocated_by g.T.Writer.Writer.meaning (λ a b. OnErr c.write.result (AddsSome a b c.args.bytes.now)) (λ a b rs h. OnErr-map c.write.result h (relocated_some c.args.bytes.now a b rs))
    c.writer_mut.ensures.value (laws.inner_with c.args.self.now c.write.new.self) (laws.relocations_with c.args.self.now c.write.new.self) c.write.ensures.partly
