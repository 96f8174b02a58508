use Rattle.std.proofs.Common.{◌∙◌, ap, sym}
use Rattle.dw_filter.specs.Links.{is_led_to}
use Rattle.dw_filter.proofs.links.is_led_to.Goals as goal

pub returns-in-Some : goal.returns-in-Some
returns-in-Some g c = c.leads_to_child.ensures 0 ∙ ap (is_led_to g.R.Reader.reading c.args.entry.now) (sym c.in-Some.is)
