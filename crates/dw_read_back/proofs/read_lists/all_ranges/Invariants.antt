use Rattle.std.proofs.Common.{◌≡◌, false, length, map}
use Rattle.dw_read.specs.Reading.{left}
use Rattle.dw_read_units.specs.Lookups.{bytes_from}
use Rattle.dw_sources.specs.RawLists.{range_at}
use Rattle.dw_sources.specs.RawListIters.{encoding_in, ranges_section}
use Rattle.dw_sources.specs.RawListViews.{span_of}
use Rattle.dw_read_back.proofs.Steps.{Begins}
use Rattle.dw_read_back.proofs.read_lists.all_ranges.Given as goal

abbrev pub invariant-items : goal.invariant-items
invariant-items g l = record {
  begun : Begins (range_at (ranges_section g.R.Reader.reading l.unit).is_big (encoding_in l.unit)) (bytes_from l.fn.offset.0 (ranges_section g.R.Reader.reading l.unit)) (map span_of l.ranges.items) (left (g.R.Reader.reading l.items.input));
  order : (g.R.Reader.reading l.items.input).is_big ≡ (ranges_section g.R.Reader.reading l.unit).is_big;
  encoding : l.items.encoding ≡ encoding_in l.unit;
  open_yet : l.items.has_ended ≡ false;
}

abbrev pub decreases-items : goal.decreases-items
decreases-items g l = length (left (g.R.Reader.reading l.items.input))
