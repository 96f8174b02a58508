use Rattle.std.specs.Prelude.{Err}
use Rattle.std.proofs.Common.{sym, ◌∙◌}
use Rattle.std.proofs.lemmas.Result.{err_from_is_err_and}
use Rattle.dw_frame.specs.Entries.{counted}
use Rattle.dw_frame.specs.Cies.{is_augmented}
use Rattle.dw_frame.specs.Fdes.{lsda_part}
use Rattle.dw_frame.proofs.PartSteps.{only_none, only_puts}
use Rattle.dw_frame.proofs.EntrySteps.{counted_refused}
use Rattle.dw_frame.proofs.fde.FrameDescriptionEntry.write_block.Goals as goal

pub returns-then-not-is_augmented : goal.returns-then-not-is_augmented
returns-then-not-is_augmented g c =
    only_none (is_augmented c.args.cie.now) (counted (lsda_part c.args.cie.now.encoding.address_size c.args.cie.now.lsda_encoding c.args.self.now.lsda)) (g.W.Writer.meaning c.args.w.now) (sym c.is_augmented.ensures ∙ c.if-not-is_augmented.true)

pub returns-in_err-write_lsda : goal.returns-in_err-write_lsda
returns-in_err-write_lsda g c =
    let e = c.in_err-write_lsda.field-0.0 in
    let p = err_from_is_err_and c.from_residual-in_err-write_lsda.result c.from_residual-in_err-write_lsda.ensures.1 in
    rw (p.1, p.2)
    (only_puts {T = Unit {0}} (Err e) (g.W.Writer.meaning c.args.w.now) (g.W.Writer.meaning c.write_lsda.new.w) (is_augmented c.args.cie.now) (counted (lsda_part c.args.cie.now.encoding.address_size c.args.cie.now.lsda_encoding c.args.self.now.lsda)) (sym c.is_augmented.ensures ∙ c.if-not-is_augmented.false)
    (counted_refused (Unit {0}) (g.W.Writer.meaning c.args.w.now) (g.W.Writer.meaning c.open.new.w) (g.W.Writer.meaning c.write_lsda.new.w) (lsda_part c.args.cie.now.encoding.address_size c.args.cie.now.lsda_encoding c.args.self.now.lsda) c.in_ok-block.ensures.opened.adds e c.in_err-write_lsda.ensures))

pub returns : goal.returns
returns g c =
    only_puts c.close.result (g.W.Writer.meaning c.args.w.now) (g.W.Writer.meaning c.close.new.w) (is_augmented c.args.cie.now) (counted (lsda_part c.args.cie.now.encoding.address_size c.args.cie.now.lsda_encoding c.args.self.now.lsda)) (sym c.is_augmented.ensures ∙ c.if-not-is_augmented.false)
    (c.close.ensures (g.W.Writer.meaning c.args.w.now) (g.W.Writer.meaning c.open.new.w) (lsda_part c.args.cie.now.encoding.address_size c.args.cie.now.lsda_encoding c.args.self.now.lsda) c.in_ok-block.ensures.opened c.in_ok-write_lsda.ensures)
