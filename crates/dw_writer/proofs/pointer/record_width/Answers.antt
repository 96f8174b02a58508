use Rattle.std.proofs.Common.{◌∙◌, ap, Some}
use Rattle.dw_writer.proofs.PointerSteps.{format-and, unsigned_width, signed_width}
use Rattle.dw_writer.proofs.pointer.record_width.Goals as goal

pub returns-in-Ok-Unsigned : goal.returns-in-Ok-Unsigned
returns-in-Ok-Unsigned c =
    unsigned_width c.args.size c.args.eh_pe.0 c.format.result.0 c.in-Ok-Unsigned.width (c.format.ensures ∙ format-and c.args.eh_pe.0) (c.in-Ok-Unsigned.ensures ∙ ap Some c.in-Ok-Unsigned.field-0-is)

pub returns-in-Ok-Signed : goal.returns-in-Ok-Signed
returns-in-Ok-Signed c =
    signed_width c.args.size c.args.eh_pe.0 c.format.result.0 c.in-Ok-Signed.width (c.format.ensures ∙ format-and c.args.eh_pe.0) (c.in-Ok-Signed.ensures ∙ ap Some c.in-Ok-Signed.field-0-is)
