use Rattle.std.proofs.Common.{◌≡◌, ◌∙◌, subst, Bool, Some, None}
use Rattle.dw_read.specs.Reading.{left}
use Rattle.dw_read.proofs.Lefts.{same_order}
use Rattle.dw_arange_table.specs.Sets.{is_range}
use Rattle.dw_arange_table.specs.Reading.{range_at}
use Rattle.dw_arange_table.proofs.ReadSteps.{ranges_all, ranges_more, range_shorter, width_positive}
use Rattle.dw_arange_table.proofs.WriteSteps.{all_push}
use Rattle.dw_arange_table.proofs.read.read_ranges.Goals as goal

pub returns-in_default-clause-ok : goal.returns-in_default-clause-ok
returns-in_default-clause-ok g c =
    let reading = g.R.Reader.reading in
    let none = subst (λ (big : Bool). range_at big c.args.size (left (reading c.more.input)) ≡ None) c.more.invariant.order c.in_default.ensures.found in
    ranges_all _ _ _ _ _ c.more.invariant.so_far none

pub more-smaller : goal.more-smaller
more-smaller g c =
    range_shorter _ _ _ _ (width_positive c.args.size c.requires) c.in-Some.ensures.found.value

pub more-preserved : goal.more-preserved
more-preserved g c =
    let reading = g.R.Reader.reading in
    let found = c.in-Some.ensures.found in
    let shorter = range_shorter _ _ _ _ (width_positive c.args.size c.requires) found.value in
    let here = subst (λ (big : Bool). range_at big c.args.size (left (reading c.more.input)) ≡ Some (c.in-Some.range, left (reading c.read_range.new.input))) c.more.invariant.order found.value in
    record {
      so_far = ranges_more _ _ _ _ _ _ _ _ c.more.invariant.so_far here shorter c.in_ok-push.ensures.items;
      order = same_order found.count _ _ found.passes ∙ c.more.invariant.order;
      fit = rw c.in_ok-push.ensures.items (all_push (is_range c.args.size) _ _ c.more.invariant.fit c.in-Some.ensures.fits);
    }
