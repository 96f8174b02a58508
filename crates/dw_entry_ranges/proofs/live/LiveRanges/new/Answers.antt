use Rattle.std.proofs.Common.{◌≡◌, ◌∙◌, ap, subst, ℕ, List, map, take}
use Rattle.std.specs.Prelude.{filter}
use Rattle.std.specs.List.Sorted.{IsPermutation}
use Rattle.std.proofs.lemmas.List.{take_all}
use Rattle.std.proofs.lemmas.List.Sorted.{IsNonDecreasingBy-from_sort}
use Rattle.dw_entry_ranges.specs.Live.{has_address}
use Rattle.dw_entry_ranges.specs.declared.live.LiveRange.{LiveRange}
use Rattle.dw_entry_ranges.proofs.live.LiveRanges.new.Goals as goal

pub returns-clause-ok : goal.returns-clause-ok
returns-clause-ok c =
    let all : take c.loop-range.range-index c.args.live.now ≡ c.args.live.now = take_all c.loop-range.range-index c.args.live.now c.loop-range-test.false in
    let begins = c.loop-range.invariant.begins ∙ ap (λ (xs : List LiveRange). map (λ x. x.begin) (filter has_address xs)) all in
    let ends = c.loop-range.invariant.ends ∙ ap (λ (xs : List LiveRange). map (λ x. x.end) (filter has_address xs)) all in
    record {
      begins = subst (λ (xs : List ℕ). IsPermutation xs c.sort_unstable.new.self.items) begins c.sort_unstable.ensures.permutation;
      ends = subst (λ (xs : List ℕ). IsPermutation xs c.sort_unstable-2.new.self.items) ends c.sort_unstable-2.ensures.permutation;
      begins_ascend = IsNonDecreasingBy-from_sort (λ n. n) c.sort_unstable.new.self.items c.sort_unstable.ensures.sorted;
      ends_ascend = IsNonDecreasingBy-from_sort (λ n. n) c.sort_unstable-2.new.self.items c.sort_unstable-2.ensures.sorted;
    }
