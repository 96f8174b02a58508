use Rattle.std.proofs.Common.{◌-◌, ◌∙◌, ap, sym, take, drop}
use Rattle.dw_base.specs.Numbers.{num}
use Rattle.dw_writer.proofs.Plain.{part-low, part-high}
use Rattle.dw_writer.proofs.number.low_bytes.Goals as goal

pub returns-then-big : goal.returns-then-big
returns-then-big c =
    ap (λ r. take (8 - (8 - c.args.size)) (drop (8 - c.args.size) r)) c.to_be_bytes-bytes.ensures
    ∙ part-high c.args.size c.args.val c.requires ∙ ap (λ b. num b c.args.size c.args.val) (sym c.if-big.true)

pub returns : goal.returns
returns c =
    ap (λ r. take (c.args.size - 0) (drop 0 r)) c.to_le_bytes-bytes.ensures
    ∙ part-low c.args.size c.args.val c.requires ∙ ap (λ b. num b c.args.size c.args.val) (sym c.if-big.false)
