use Rattle.std.proofs.Common.{◌≡◌, false, List, length}
use Rattle.dw_lists.specs.declared.location.Location.{Location}
use Rattle.dw_read.specs.Reading.{left}
use Rattle.dw_read_units.specs.Lookups.{bytes_from}
use Rattle.dw_sources.specs.RawLists.{location_at}
use Rattle.dw_sources.specs.RawListIters.{encoding_in, locations_section}
use Rattle.dw_convert.specs.LocationLists.{ItemOutcome}
use Rattle.dw_convert.specs.Lists.{Begun, based}
use Rattle.dw_convert.specs.Locations.{is_base_item, kept_locations}
use Rattle.dw_convert.specs.RangeLists.{has_base}
use Rattle.dw_convert.proofs.locations.location_list.Given as goal

abbrev pub invariant-items : goal.invariant-items
invariant-items g l =
    let reading = g.R.Reader.reading in
    record {
      images : List Location;
      begun : Begun (ItemOutcome reading (goal.F-post g l.convert_address) (g.C.ConvertDebugInfoRef.entries l.refs) (g.C.ConvertDebugInfoRef.infos l.refs) l.unit (locations_section reading l.unit).is_big) is_base_item (location_at (locations_section reading l.unit).is_big (encoding_in l.unit)) (has_base l.unit) (bytes_from l.fn.offset.0 (locations_section reading l.unit)) (left (reading l.items.input)) images;
      kept : l.locations.items ≡ kept_locations images;
      base : l.has_base ≡ based is_base_item (has_base l.unit) begun.items;
      order : (reading l.items.input).is_big ≡ (locations_section reading l.unit).is_big;
      encoding : l.items.encoding ≡ encoding_in l.unit;
      open_yet : l.items.has_ended ≡ false;
    }

abbrev pub decreases-items : goal.decreases-items
decreases-items g l = length (left (g.R.Reader.reading l.items.input))
