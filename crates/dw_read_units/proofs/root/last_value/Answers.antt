use Rattle.dw_read_units.specs.Roots.{named_in, last_value}
use Rattle.dw_read_units.proofs.RootLaws.{later_step, later_end}
use Rattle.dw_read_units.proofs.root.last_value.Goals as goal

pub loop-attribute-preserved : goal.loop-attribute-preserved
loop-attribute-preserved g c = later_step c.args.name.0 c.args.other.0 (named_in g.R.Reader.reading) c.args.attrs.now c.loop-attribute.attribute-index _ _ _ _ c.loop-attribute-test.true c.attribute-item.is c.later-found.ensures c.loop-attribute.invariant

pub returns : goal.returns
unfolding last_value
returns g c = later_end c.args.name.0 c.args.other.0 (named_in g.R.Reader.reading) c.args.attrs.now c.loop-attribute.attribute-index _ _ c.loop-attribute-test.false c.loop-attribute.invariant
