use Rattle.std.proofs.Common.{◌≡◌, ◌∙◌, sym, ap, subst, refl, ◌<◌, ◌+◌, ◌++◌, length, drop, map, nat_eq, arith}
use Rattle.std.specs.HashSet.{contains}
use Rattle.dw_arange_table.specs.Find.{units_at}
use Rattle.dw_arange_table.proofs.WriteSteps.{drop_cons}
use Rattle.dw_arange_table.proofs.FindSteps.{unseen, unseen_none, found_new, found_again, found_none}
use Rattle.dw_arange_table.proofs.table.find_in.Goals.{then-contains+in_ok-insert+then-branch+in_ok-push, then-contains+in_ok-insert+else-branch, else-contains}
use Rattle.dw_arange_table.proofs.table.find_in.Goals as goal

pub loop-set-init : goal.loop-set-init
loop-set-init c =
    rw (c.new-found.ensures.items, c.new-seen.ensures.empty) (unseen_none _ _ (λ u. refl))

pub loop-set-preserved : goal.loop-set-preserved
loop-set-preserved c =
    let sets = c.args.sets.now in
    let i = c.loop-set.set-index in
    let s = c.set-item.result in
    let a = c.args.address in
    let below : i < length sets = omega arith in
    let seen = contains nat_eq c.loop-set.seen in
    let next = contains nat_eq c.if-contains.seen in
    let found = c.loop-set.found.items in
    let rest = drop (i + 1) sets in
    let before = subst (λ ys. map (λ u. u.0) found ++ unseen seen (units_at a ys) ≡ units_at a sets) (drop_cons sets i s below c.set-item.is) c.loop-set.invariant in
    elim c.if-contains.branch [
      | then-contains+in_ok-insert+then-branch+in_ok-push w ↦
          found_new found seen next a s rest (units_at a sets) c.if-contains.found.items w.unit-unit.result before (sym c.contains.ensures ∙ w.if-contains.true) w.unit-unit.ensures
          (sym w.if-branch.true ∙ w.in_ok-insert.ensures.added) (λ q. ap (λ t. contains nat_eq t q) w.seen-is ∙ w.in_ok-insert.ensures.updates.0 q) (ap (λ v. v.items) w.found-is ∙ w.in_ok-push.ensures.items)
      | then-contains+in_ok-insert+else-branch w ↦
          found_again found seen next a s rest (units_at a sets) c.if-contains.found.items w.unit-unit.result before (sym c.contains.ensures ∙ w.if-contains.true) w.unit-unit.ensures
          (sym w.if-branch.false ∙ w.in_ok-insert.ensures.added) (λ q. ap (λ t. contains nat_eq t q) w.seen-is ∙ w.in_ok-insert.ensures.updates.0 q) (ap (λ v. v.items) w.found-is)
      | else-contains w ↦ rw (w.found-is, w.seen-is) (found_none found seen seen a s rest (units_at a sets) before (sym c.contains.ensures ∙ w.if-contains.false))
    ]
