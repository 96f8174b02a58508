-- References to entries by their place in .debug_info that lead nowhere, in .debug_info itself and in location lists.
use Rattle.std.specs.Prelude.{Bool, true, false, ◌||◌, List}
use Rattle.dw_base.specs.declared.error.Error.{Error}
use Rattle.dw_writer.specs.Drafts.{Info}
use Rattle.dw_tree.specs.Built.{Numbered}
use Rattle.dw_tree.specs.Elsewhere.{Ends}
use Rattle.dw_tree.specs.Pending.{Kept, units_draft, locations_draft}
use Rattle.dw_tree.specs.UnitFaults.{holes_fail}

-- one of the location lists of units leads nowhere, or to a place that has no room
abbrev pub lists_refer_wrong : Info → Ends → List Numbered → Error → Bool
lists_refer_wrong info ends us err =
    holes_fail info ends.locations.is_plain (locations_draft us false).holes err
    || holes_fail info ends.location_lists.is_plain (locations_draft us true).holes err

-- so does one of the units, or of these
abbrev pub references_fail : Info → Bool → Ends → List Numbered → List Kept → Error → Bool
references_fail info is_plain ends us kept err =
    holes_fail info is_plain (units_draft us kept).holes err || lists_refer_wrong info ends us err
