use Rattle.std.proofs.Common.{◌∙◌, sym, ap}
use Rattle.std.specs.Prelude.{◌&&◌}
use Rattle.dw_base.specs.Pointers.{pointer_width}
use Rattle.dw_link.specs.Faults.{is_width_of}
use Rattle.dw_link.proofs.Sums.{linkable-and, linkable-not}
use Rattle.dw_link.proofs.sum.is_linkable.Goals as goal

pub returns-then-is_counted : goal.returns-then-is_counted
returns-then-is_counted c =
    c.has_width.ensures
    ∙ ap (λ b. b && is_width_of c.args.size (pointer_width c.args.size c.format.result.0)) (sym (sym c.is_counted.ensures ∙ c.if-is_counted.true))
    ∙ linkable-and c.args.size c.args.eh_pe.0 c.application.result.0 c.format.result.0 c.application.ensures c.format.ensures

pub returns-else-is_counted : goal.returns-else-is_counted
returns-else-is_counted c =
    linkable-not c.args.size c.args.eh_pe.0 c.application.result.0 c.is_counted.result c.application.ensures c.is_counted.ensures c.if-is_counted.false
