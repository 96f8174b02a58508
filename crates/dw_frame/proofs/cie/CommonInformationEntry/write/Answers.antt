use Rattle.std.specs.Prelude.{Ok, Err, ℕ}
use Rattle.std.proofs.Common.{subst}
use Rattle.std.proofs.lemmas.Result.{err_from_is_err_and}
use Rattle.dw_frame.specs.Parts.{Puts}
use Rattle.dw_frame.specs.Entries.{entry}
use Rattle.dw_frame.specs.Cies.{cie_contents}
use Rattle.dw_frame.proofs.EntrySteps.{entry_refused}
use Rattle.dw_frame.proofs.cie.CommonInformationEntry.write.Goals as goal

pub returns-in_err-write_contents-clause-part : goal.returns-in_err-write_contents-clause-part
returns-in_err-write_contents-clause-part g c =
    let e = c.in_err-write_contents.field-0.0 in
    let p = err_from_is_err_and c.from_residual-in_err-write_contents.result c.from_residual-in_err-write_contents.ensures.1 in
    rw (p.1, p.2) (entry_refused ℕ (g.W.Writer.meaning c.args.w.now) (g.W.Writer.meaning c.open.new.w) (g.W.Writer.meaning c.write_contents.new.w) c.in_ok-entry.entry c.args.self.now.encoding (cie_contents c.args.kind c.args.self.now) c.in_ok-entry.ensures.opened c.in_ok-entry.ensures.encoding e c.in_err-write_contents.ensures)

pub returns-in_err-close-clause-part : goal.returns-in_err-close-clause-part
returns-in_err-close-clause-part g c =
    let e = c.in_err-close.field-0.0 in
    let p = err_from_is_err_and c.from_residual-in_err-close.result c.from_residual-in_err-close.ensures.1 in
    let why = c.in_err-close.ensures (g.W.Writer.meaning c.args.w.now) (g.W.Writer.meaning c.open.new.w) (cie_contents c.args.kind c.args.self.now) c.in_ok-entry.ensures.opened c.in_ok-write_contents.ensures in
    rw (p.1, p.2) (subst (λ x. Puts {T = ℕ} (Err e) (g.W.Writer.meaning c.args.w.now) (g.W.Writer.meaning c.close.new.w) (entry x (cie_contents c.args.kind c.args.self.now))) c.in_ok-entry.ensures.encoding why)

pub returns-clause-part : goal.returns-clause-part
returns-clause-part g c =
    let done = c.in_ok-close.ensures (g.W.Writer.meaning c.args.w.now) (g.W.Writer.meaning c.open.new.w) (cie_contents c.args.kind c.args.self.now) c.in_ok-entry.ensures.opened c.in_ok-write_contents.ensures in
    subst (λ x. Puts {T = Unit {0}} (Ok tt) (g.W.Writer.meaning c.args.w.now) (g.W.Writer.meaning c.close.new.w) (entry x (cie_contents c.args.kind c.args.self.now))) c.in_ok-entry.ensures.encoding done
