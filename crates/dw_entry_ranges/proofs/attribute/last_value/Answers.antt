use Rattle.dw_read_units.specs.Roots.{named_in, last_value}
use Rattle.dw_read_units.proofs.RootLaws.{later_step, later_end}
use Rattle.dw_entry_ranges.proofs.AttributeLaws.{one_in_order}
use Rattle.dw_entry_ranges.proofs.attribute.last_value.Goals as goal

pub loop-attribute-preserved : goal.loop-attribute-preserved
loop-attribute-preserved g c = record {
  told = later_step c.args.name.0 c.args.name.0 (named_in g.R.Reader.reading) c.args.attrs.now c.loop-attribute.attribute-index _ _ _ _ c.loop-attribute-test.true c.attribute-item.is c.later-found.ensures.is c.loop-attribute.invariant.told;
  order = λ big h. c.later-found.ensures.order big (c.loop-attribute.invariant.order big h) (one_in_order _ _ g.R.Reader.reading big c.args.attrs.now c.loop-attribute.attribute-index c.attribute-item.result c.loop-attribute-test.true c.attribute-item.is h);
}

pub returns-clause-is : goal.returns-clause-is
unfolding last_value
returns-clause-is g c = later_end c.args.name.0 c.args.name.0 (named_in g.R.Reader.reading) c.args.attrs.now c.loop-attribute.attribute-index _ _ c.loop-attribute-test.false c.loop-attribute.invariant.told
