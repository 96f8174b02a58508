use Rattle.std.proofs.Common.{sym, ◌∙◌}
use Rattle.dw_frame.specs.Cies.{has_encoding}
use Rattle.dw_frame.specs.Fdes.{encoded_range, plain_range}
use Rattle.dw_frame.proofs.PartSteps.{Puts-else}
use Rattle.dw_frame.proofs.fde.FrameDescriptionEntry.write_range.Goals as goal

pub returns-else-has_encoding : goal.returns-else-has_encoding
returns-else-has_encoding g c =
    Puts-else c.write_plain_range.result (g.W.Writer.meaning c.args.w.now) (g.W.Writer.meaning c.write_plain_range.new.w) (has_encoding c.args.cie.now) (encoded_range c.args.cie.now.encoding.address_size c.args.cie.now.fde_address_encoding.0 c.args.self.now) (plain_range c.args.cie.now.encoding.address_size c.args.self.now) (sym c.has_encoding.ensures ∙ c.if-has_encoding.false) c.write_plain_range.ensures
