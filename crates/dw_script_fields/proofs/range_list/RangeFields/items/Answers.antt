use Rattle.dw_script_fields.specs.Ranges.{ranges_left}
use Rattle.dw_script_fields.proofs.range_list.RangeFields.items.Goals as goal

pub returns : goal.returns
unfolding ranges_left
returns c = c.self.view_is
