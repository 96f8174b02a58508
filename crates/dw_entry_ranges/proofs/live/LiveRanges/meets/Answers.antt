use Rattle.std.proofs.Common.{◌≡◌, ◌∙◌, sym, subst, List, ℕ, length, nat_lt, nat_le, true, false, rules, ◌<◌, ◌≤◌}
use Rattle.std.proofs.lemmas.Bool.{le-ltb}
use Rattle.std.specs.List.Sorted.{IsPartitionPoint, IsNonDecreasing}
use Rattle.std.proofs.lemmas.List.Sorted.{IsPartitionPoint-from_clause, IsPartitionedBy-leb, IsPartitionedBy-ltb}
use Rattle.dw_entry_ranges.proofs.LiveLaws.{meets_between, meets_nothing}
use Rattle.dw_entry_ranges.proofs.live.LiveRanges.meets.Goals as goal

pub returns-then-range : goal.returns-then-range
returns-then-range c = λ live made.
    let r = c.args.range in
    let some : r.begin < r.end = c.if-range.true in
    let begins = c.deref.result.now in
    let ends = c.deref-2.result.now in
    let begins_are : begins ≡ c.args.self.now.begins.items = c.deref.ensures.value in
    let ends_are : ends ≡ c.args.self.now.ends.items = c.deref-2.ensures.value in
    let begins_ascend = subst (λ (xs : List ℕ). IsNonDecreasing xs) (sym begins_are) made.begins_ascend in
    let ends_ascend = subst (λ (xs : List ℕ). IsNonDecreasing xs) (sym ends_are) made.ends_ascend in
    let begun = IsPartitionPoint-from_clause (λ y. nat_lt y r.end) begins c.partition_point-begun.result c.partition_point-begun.ensures.partitioned (IsPartitionedBy-ltb (λ n. n) begins r.end begins_ascend) (λ a b q k. search rules) in
    let ended = IsPartitionPoint-from_clause (λ y. nat_le y r.begin) ends c.partition_point-ended.result c.partition_point-ended.ensures.partitioned (IsPartitionedBy-leb (λ n. n) ends r.begin ends_ascend) (λ a b q k. search rules) in
    meets_between r some c.args.self.now live _ _ made
    (subst (λ (xs : List ℕ). c.partition_point-begun.result ≤ length xs) begins_are c.partition_point-begun.ensures.bound)
    (subst (λ (xs : List ℕ). IsPartitionPoint (λ y. nat_lt y r.end ≡ true) (λ y. nat_lt y r.end ≡ false) xs c.partition_point-begun.result) begins_are begun)
    (subst (λ (xs : List ℕ). c.partition_point-ended.result ≤ length xs) ends_are c.partition_point-ended.ensures.bound)
    (subst (λ (xs : List ℕ). IsPartitionPoint (λ y. nat_le y r.begin ≡ true) (λ y. nat_le y r.begin ≡ false) xs c.partition_point-ended.result) ends_are ended)

pub returns-else-range : goal.returns-else-range
returns-else-range c = λ live made.
    let none = le-ltb c.args.range.begin c.args.range.end c.if-range.false in
    none ∙ sym (meets_nothing live c.args.range none)
