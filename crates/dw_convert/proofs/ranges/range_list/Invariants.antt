use Rattle.std.proofs.Common.{◌≡◌, false, List, length}
use Rattle.dw_lists.specs.declared.range.Range.{Range}
use Rattle.dw_read.specs.Reading.{left}
use Rattle.dw_read_units.specs.Lookups.{bytes_from}
use Rattle.dw_sources.specs.RawLists.{range_at}
use Rattle.dw_sources.specs.RawListIters.{encoding_in, ranges_section}
use Rattle.dw_convert.specs.Lists.{Begun, based}
use Rattle.dw_convert.specs.Lookups.{address_of}
use Rattle.dw_convert.specs.Ranges.{RangeOutcome, is_base, kept}
use Rattle.dw_convert.specs.RangeLists.{has_base}
use Rattle.dw_convert.proofs.ranges.range_list.Given as goal

abbrev pub invariant-items : goal.invariant-items
invariant-items g l = record {
  images : List Range;
  begun : Begun (RangeOutcome (goal.F-post g l.convert_address) (address_of g.R.Reader.reading l.unit)) is_base (range_at (ranges_section g.R.Reader.reading l.unit).is_big (encoding_in l.unit)) (has_base l.unit) (bytes_from l.fn.offset.0 (ranges_section g.R.Reader.reading l.unit)) (left (g.R.Reader.reading l.items.input)) images;
  kept : l.ranges.items ≡ kept images;
  base : l.has_base ≡ based is_base (has_base l.unit) begun.items;
  order : (g.R.Reader.reading l.items.input).is_big ≡ (ranges_section g.R.Reader.reading l.unit).is_big;
  encoding : l.items.encoding ≡ encoding_in l.unit;
  open_yet : l.items.has_ended ≡ false;
}

abbrev pub decreases-items : goal.decreases-items
decreases-items g l = length (left (g.R.Reader.reading l.items.input))
