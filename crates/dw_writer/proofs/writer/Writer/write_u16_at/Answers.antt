use Rattle.std.specs.Prelude.{IfErr, length}
use Rattle.std.proofs.Common.{◌∙◌, ap, subst}
use Rattle.dw_base.specs.Numbers.{num}
use Rattle.dw_base.proofs.NumberLaws.{length-num}
use Rattle.dw_writer.specs.Causes.{PatchRefused}
use Rattle.dw_writer.proofs.Parts.{Replaces-is, ReplacesSome-is}
use Rattle.dw_writer.proofs.writer.Writer.write_u16_at.Goals as goal

pub returns-clause-ok : goal.returns-clause-ok
returns-clause-ok g c =
    Replaces-is c.write_at.result _ _ c.args.offset c.write_at.ensures.ok (c.bytes_of_u16.ensures ∙ ap (λ b. num b 2 c.args.val) c.is_big-big.ensures)

pub returns-clause-err : goal.returns-clause-err
returns-clause-err g c =
    subst (λ k. IfErr c.write_at.result (PatchRefused (g.Self.Writer.meaning c.args.self.now) (g.Self.Writer.meaning c.write_at.new.self) c.args.offset k))
    (ap length c.bytes_of_u16.ensures ∙ length-num c.is_big-big.result 2 c.args.val) c.write_at.ensures.err

pub returns-clause-partly : goal.returns-clause-partly
returns-clause-partly g c =
    ReplacesSome-is c.write_at.result _ _ c.args.offset c.write_at.ensures.partly (c.bytes_of_u16.ensures ∙ ap (λ b. num b 2 c.args.val) c.is_big-big.ensures)
