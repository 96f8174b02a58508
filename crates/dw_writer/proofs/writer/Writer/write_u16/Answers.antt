use Rattle.std.proofs.Common.{◌∙◌, ap}
use Rattle.dw_base.specs.Numbers.{num}
use Rattle.dw_writer.proofs.Parts.{Adds-is, AddsSome-is}
use Rattle.dw_writer.proofs.writer.Writer.write_u16.Goals as goal

pub returns-clause-ok : goal.returns-clause-ok
returns-clause-ok g c = Adds-is c.write.result _ _ c.write.ensures.ok (c.bytes_of_u16.ensures ∙ ap (λ b. num b 2 c.args.val) c.is_big-big.ensures)

pub returns-clause-partly : goal.returns-clause-partly
returns-clause-partly g c =
    AddsSome-is c.write.result _ _ c.write.ensures.partly (c.bytes_of_u16.ensures ∙ ap (λ b. num b 2 c.args.val) c.is_big-big.ensures)
