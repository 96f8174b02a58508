use Rattle.dw_script_fields.specs.Locations.{locations_left}
use Rattle.dw_script_fields.proofs.location_list.LocationFields.items.Goals as goal

pub returns : goal.returns
unfolding locations_left
returns c = c.self.view_is
