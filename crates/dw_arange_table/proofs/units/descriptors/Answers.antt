use Rattle.std.proofs.Common.{◌≡◌, ◌+◌, ◌∙◌, ap, subst, inr, ◌<◌, ◌++◌, length, drop, get_or}
use Rattle.std.proofs.lemmas.Result.{err_from_is_err_and}
use Rattle.std.proofs.lemmas.List.{get_or_default}
use Rattle.dw_entry_ranges.specs.declared.range.AddressRange.{AddressRange}
use Rattle.dw_arange_table.specs.Sets.{is_range}
use Rattle.dw_arange_table.specs.Covers.{is_addressed, descriptors_of}
use Rattle.dw_arange_table.proofs.WriteSteps.{drop_cons, all_push, all_more}
use Rattle.dw_arange_table.proofs.CoverSteps.{kept, left_out, range_of_fits, not_all, all_of, none_left}
use Rattle.dw_arange_table.proofs.units.descriptors.Goals.{then-descriptor-ne0+in_ok-push, else-descriptor-ne0}
use Rattle.dw_arange_table.proofs.units.descriptors.Goals as goal

pub returns-in_err-descriptor-clause-err : goal.returns-in_err-descriptor-clause-err
returns-in_err-descriptor-clause-err c =
    let why = c.in_err-descriptor.ensures.err in
    let p = err_from_is_err_and c.from_residual.result c.from_residual.ensures.1 in
    rw (p.1, p.2) (inr (why.0, not_all (is_addressed c.args.size) c.args.ranges.now c.loop-range.range-index _ c.loop-range-test.true why.1))

pub loop-range-preserved : goal.loop-range-preserved
loop-range-preserved c =
    let ranges = c.args.ranges.now in
    let size = c.args.size in
    let i = c.loop-range.range-index in
    let below : i < length ranges = c.loop-range-test.true in
    let r : AddressRange = get_or ranges i (record { begin = 0; end = 0 }) in
    let rest = drop (i + 1) ranges in
    let is = get_or_default ranges i (record { begin = 0; end = 0 }) r below in
    let found = c.loop-range.found.items in
    let d = c.in_ok-descriptor.descriptor in
    let all = descriptors_of ranges in
    let before = subst (λ l. found ++ descriptors_of l ≡ all) (drop_cons ranges i r below is) c.loop-range.invariant.is in
    let addressed = all_more (is_addressed size) ranges i r below is c.loop-range.invariant.addressed c.in_ok-descriptor.ensures.addressed in
    elim c.if-descriptor-ne0.branch [
      | then-descriptor-ne0+in_ok-push w ↦
          let more = ap (λ v. v.items) w.found-is ∙ w.in_ok-push.ensures.items in
          record {
            is = kept found c.if-descriptor-ne0.found.items d r rest all before c.in_ok-descriptor.ensures.ok w.if-descriptor-ne0.true more;
            fit = rw more (all_push (is_range size) found d c.loop-range.invariant.fit (range_of_fits size d c.in_ok-descriptor.ensures.fit w.if-descriptor-ne0.true));
            addressed = addressed;
          }
      | else-descriptor-ne0 w ↦
          record {
            is = rw w.found-is (left_out found found d r rest all before c.in_ok-descriptor.ensures.ok w.if-descriptor-ne0.false);
            fit = rw w.found-is c.loop-range.invariant.fit;
            addressed = addressed;
          }
    ]

pub returns-clause-ok : goal.returns-clause-ok
returns-clause-ok c = none_left c.loop-range.found.items _ c.args.ranges.now c.loop-range.range-index c.loop-range-test.false c.loop-range.invariant.is

pub returns-clause-addressed : goal.returns-clause-addressed
returns-clause-addressed c = all_of (is_addressed c.args.size) c.args.ranges.now c.loop-range.range-index c.loop-range-test.false c.loop-range.invariant.addressed
