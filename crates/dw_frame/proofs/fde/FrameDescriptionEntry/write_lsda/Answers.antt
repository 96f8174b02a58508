use Rattle.dw_frame.proofs.FdeSteps.{lsda_none, lsda_nowhere, lsda_puts}
use Rattle.dw_frame.proofs.fde.FrameDescriptionEntry.write_lsda.Goals as goal

pub returns-in_default : goal.returns-in_default
returns-in_default g c =
    lsda_none (g.W.Writer.meaning c.args.w.now) c.args.cie.now.encoding.address_size c.args.cie.now.lsda_encoding c.args.self.now.lsda c.in_default.is

pub returns-in_default-lsda : goal.returns-in_default-lsda
returns-in_default-lsda g c =
    lsda_nowhere (g.W.Writer.meaning c.args.w.now) c.args.cie.now.encoding.address_size c.args.cie.now.lsda_encoding c.args.self.now.lsda c.in_default-lsda.is

pub returns : goal.returns
returns g c =
    let x = c.write_eh_pointer.ensures in
    lsda_puts c.write_eh_pointer.result (g.W.Writer.meaning c.args.w.now) (g.W.Writer.meaning c.write_eh_pointer.new.self) c.args.cie.now.encoding.address_size c.args.cie.now.lsda_encoding c.args.self.now.lsda c.in-Some.encoding c.in-Some-lsda.address c.in-Some.is c.in-Some-lsda.is x.fits x.ok x.err
