use Rattle.std.proofs.Common.{◌≡◌, false, length, map}
use Rattle.dw_read.specs.Reading.{left}
use Rattle.dw_read_units.specs.Lookups.{bytes_from}
use Rattle.dw_sources.specs.RawLists.{location_at}
use Rattle.dw_sources.specs.RawListIters.{encoding_in, locations_section}
use Rattle.dw_sources.specs.RawListViews.{location_of}
use Rattle.dw_read_back.proofs.Steps.{Begins}
use Rattle.dw_read_back.proofs.read_lists.all_locations.Given as goal

abbrev pub invariant-items : goal.invariant-items
invariant-items g l = record {
  begun : Begins (location_at (locations_section g.R.Reader.reading l.unit).is_big (encoding_in l.unit)) (bytes_from l.fn.offset.0 (locations_section g.R.Reader.reading l.unit)) (map (location_of g.R.Reader.reading) l.locations.items) (left (g.R.Reader.reading l.items.input));
  order : (g.R.Reader.reading l.items.input).is_big ≡ (locations_section g.R.Reader.reading l.unit).is_big;
  encoding : l.items.encoding ≡ encoding_in l.unit;
  open_yet : l.items.has_ended ≡ false;
}

abbrev pub decreases-items : goal.decreases-items
decreases-items g l = length (left (g.R.Reader.reading l.items.input))
