use Rattle.std.specs.Prelude.{Err}
use Rattle.std.proofs.Common.{◌≡◌, ◌∙◌, true, false, subst}
use Rattle.std.proofs.lemmas.Result.{err_from_is_err_and}
use Rattle.dw_frame.specs.Parts.{Puts, refused_if}
use Rattle.dw_frame.specs.Entries.{entry}
use Rattle.dw_frame.specs.Fdes.{disagree, mismatch, fde_contents}
use Rattle.dw_frame.proofs.PartSteps.{Puts-then}
use Rattle.dw_frame.proofs.EntrySteps.{entry_refused}
use Rattle.dw_frame.proofs.FdeSteps.{disagree_is, mismatch_fails, refused_none}
use Rattle.dw_frame.proofs.TableSteps.{OnOk-always}
use Rattle.dw_frame.proofs.fde.FrameDescriptionEntry.write.Goals as goal

pub returns-then-is_some-clause-part : goal.returns-then-is_some-clause-part
returns-then-is_some-clause-part g c =
    let differ : disagree c.args.cie.now.lsda_encoding c.args.self.now.lsda ≡ true = disagree_is c.args.cie.now.lsda_encoding c.args.self.now.lsda ∙ rw (c.is_some.ensures, c.is_some-2.ensures) at c.if-is_some.true in
    mismatch_fails (disagree c.args.cie.now.lsda_encoding c.args.self.now.lsda) (entry c.args.cie.now.encoding (fde_contents c.args.kind c.args.cie_at c.args.cie.now c.args.self.now)) (g.W.Writer.meaning c.args.w.now).size (g.W.Writer.meaning c.args.w.now).is_plain differ

pub returns-in_err-write_contents-clause-part : goal.returns-in_err-write_contents-clause-part
returns-in_err-write_contents-clause-part g c =
    let agree : disagree c.args.cie.now.lsda_encoding c.args.self.now.lsda ≡ false = disagree_is c.args.cie.now.lsda_encoding c.args.self.now.lsda ∙ rw (c.is_some.ensures, c.is_some-2.ensures) at c.if-is_some.false in
    let before = refused_none (disagree c.args.cie.now.lsda_encoding c.args.self.now.lsda) (g.W.Writer.meaning c.args.w.now) agree in
    let e = c.in_err-write_contents.field-0.0 in
    let p = err_from_is_err_and c.from_residual-in_err-write_contents.result c.from_residual-in_err-write_contents.ensures.1 in
    let why = entry_refused (Unit {0}) (g.W.Writer.meaning c.args.w.now) (g.W.Writer.meaning c.open.new.w) (g.W.Writer.meaning c.write_contents.new.w) c.in_ok-entry.entry c.args.cie.now.encoding (fde_contents c.args.kind c.args.cie_at c.args.cie.now c.args.self.now) c.in_ok-entry.ensures.opened c.in_ok-entry.ensures.encoding e c.in_err-write_contents.ensures in
    rw (p.1, p.2) (Puts-then {T = Unit {0}} (Err e) (g.W.Writer.meaning c.args.w.now) (g.W.Writer.meaning c.args.w.now) (g.W.Writer.meaning c.write_contents.new.w) (refused_if (disagree c.args.cie.now.lsda_encoding c.args.self.now.lsda) mismatch) (entry c.args.cie.now.encoding (fde_contents c.args.kind c.args.cie_at c.args.cie.now c.args.self.now)) before why)

pub returns-clause-part : goal.returns-clause-part
returns-clause-part g c =
    let agree : disagree c.args.cie.now.lsda_encoding c.args.self.now.lsda ≡ false = disagree_is c.args.cie.now.lsda_encoding c.args.self.now.lsda ∙ rw (c.is_some.ensures, c.is_some-2.ensures) at c.if-is_some.false in
    let before = refused_none (disagree c.args.cie.now.lsda_encoding c.args.self.now.lsda) (g.W.Writer.meaning c.args.w.now) agree in
    let done = c.close.ensures (g.W.Writer.meaning c.args.w.now) (g.W.Writer.meaning c.open.new.w) (fde_contents c.args.kind c.args.cie_at c.args.cie.now c.args.self.now) c.in_ok-entry.ensures.opened c.in_ok-write_contents.ensures in
    let whole = subst (λ x. Puts c.close.result (g.W.Writer.meaning c.args.w.now) (g.W.Writer.meaning c.close.new.w) (entry x (fde_contents c.args.kind c.args.cie_at c.args.cie.now c.args.self.now))) c.in_ok-entry.ensures.encoding done in
    Puts-then c.close.result (g.W.Writer.meaning c.args.w.now) (g.W.Writer.meaning c.args.w.now) (g.W.Writer.meaning c.close.new.w) (refused_if (disagree c.args.cie.now.lsda_encoding c.args.self.now.lsda) mismatch) (entry c.args.cie.now.encoding (fde_contents c.args.kind c.args.cie_at c.args.cie.now c.args.self.now)) before whole

pub returns-clause-ranged : goal.returns-clause-ranged
returns-clause-ranged g c =
    let told = c.tell_widths.ensures in
    OnOk-always c.close.result (record { address = told.address; length = told.size; lsda = told.lsda })
