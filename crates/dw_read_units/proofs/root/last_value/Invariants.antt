use Rattle.std.proofs.Common.{◌≡◌, map, drop, None}
use Rattle.dw_read.specs.Took.{option_of}
use Rattle.dw_read.specs.Values.{value_of}
use Rattle.dw_read_units.specs.Roots.{named_in, last_after}
use Rattle.dw_read_units.proofs.root.last_value.Given as goal

abbrev pub invariant-loop-attribute : goal.invariant-loop-attribute
invariant-loop-attribute g l =
    last_after l.name.0 l.other.0 (option_of (value_of g.R.Reader.reading) l.found) (drop l.attribute-index (map (named_in g.R.Reader.reading) l.attrs)) ≡ last_after l.name.0 l.other.0 None (map (named_in g.R.Reader.reading) l.attrs)
