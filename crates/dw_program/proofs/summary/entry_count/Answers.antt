use Rattle.std.proofs.Common.{◌≡◌, ◌<◌, ◌^◌, ap, subst, arith, rules, length, Some, slice_get}
use Rattle.std.proofs.lemmas.List.Sums.{sum_by_more}
use Rattle.std.proofs.lemmas.Option.{get_or_from_slice_get}
use Rattle.dw_tree.specs.UnitValue.{UnitValue}
use Rattle.dw_program.proofs.summary.entry_count.Goals as goal

pub loop-index-preserved : goal.loop-index-preserved
loop-index-preserved c =
    let us = c.args.units.now in
    let i = c.loop-index.index in
    let unit = c.get.result.now in
    let within : i < length us = omega (arith, c.loop-index-test.true, c.loop-index.invariant.end) in
    let at = subst (λ k. slice_get us k ≡ Some unit) c.id.ensures c.get.ensures in
    let same = ap (λ (u : UnitValue). length u.entries) (get_or_from_slice_get us i unit unit at) in
    let more = sum_by_more (λ (u : UnitValue). length u.entries) us i unit within in
    let small : c.count.result < 2 ^ 64 = search rules in
    record {
      end = c.loop-index.invariant.end;
      sum = omega (arith, more, same, c.count.ensures.value, c.loop-index.invariant.sum);
      room = omega (arith, small, c.loop-index.invariant.room);
    }
