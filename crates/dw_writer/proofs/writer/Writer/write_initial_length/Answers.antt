use Rattle.std.proofs.Common.{subst}
use Rattle.dw_writer.specs.Causes.{BytesRefused}
use Rattle.dw_writer.specs.Meaning.{Adds, AddsSome}
use Rattle.dw_writer.proofs.Outcomes.{OnErr-always, IfErr-exit}
use Rattle.dw_writer.proofs.Parts.{length-place}
use Rattle.dw_writer.proofs.writer.Writer.write_initial_length.Goals as goal

pub returns-in_err-write-clause-err : goal.returns-in_err-write-clause-err
returns-in_err-write-clause-err g c =
    IfErr-exit c.from_residual.result (BytesRefused (g.Self.Writer.meaning c.args.self.now) (g.Self.Writer.meaning c.write.new.self)) c.from_residual.ensures.1 c.in_err-write.ensures.err

pub returns-in_err-write-clause-partly : goal.returns-in_err-write-clause-partly
returns-in_err-write-clause-partly g c =
    OnErr-always c.from_residual.result (subst (λ l. AddsSome (g.Self.Writer.meaning c.args.self.now) (g.Self.Writer.meaning c.write.new.self) l) c.open_length.ensures c.in_err-write.ensures.partly)

pub returns-clause-ok : goal.returns-clause-ok
returns-clause-ok g c =
    subst (λ l. Adds (g.Self.Writer.meaning c.args.self.now) (g.Self.Writer.meaning c.write.new.self) l) c.open_length.ensures c.in_ok-write.ensures.ok

pub returns-clause-place : goal.returns-clause-place
returns-clause-place g c = length-place c.args.format _ _ c.len.result c.word_size.result _ c.len.ensures c.in_ok-write.ensures.ok.size c.open_length.ensures c.word_size.ensures
