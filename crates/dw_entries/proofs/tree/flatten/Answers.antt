use Rattle.std.proofs.Common.{◌≡◌, ◌∙◌, sym, ap, subst, ℕ, ◌+◌, ◌-◌, ◌<◌, List, ◌++◌, length, map, None, arith}
use Rattle.std.proofs.lemmas.Bool.{eqb-true}
use Rattle.std.proofs.lemmas.List.{map_push, nil_from_length, length-map, length_push}
use Rattle.dw_entries.specs.Tree.{tree_from, preorder, mark_of, marks, AreIn}
use Rattle.dw_entries.specs.Walk.{IsPath, top, pending}
use Rattle.dw_entries.specs.declared.tree.Item.{Item}
use Rattle.dw_entries.specs.declared.tree.Frame.{Frame}
use Rattle.dw_entries.proofs.ChildReads.{child_of}
use Rattle.dw_entries.proofs.Inside.{preorder_in}
use Rattle.dw_entries.proofs.Walk.{path_push, path_pop, path_depth, top_push, given_room, done_step, next_child, start, finish, no_tree}
use Rattle.dw_entries.proofs.tree.flatten.Goals as goal

falls : (n : ℕ) (old new : List Item) → length (marks old) < n → length new ≡ length old + 1 → n - length new < n - length old
falls n old new h e = omega (arith, length-map old mark_of)

pub returns-then-is_empty-clause-items : goal.returns-then-is_empty-clause-items
returns-then-is_empty-clause-items c =
    ap marks c.new-items.ensures.items ∙ sym (no_tree c.args.entries.now (nil_from_length _ (eqb-true _ _ (sym c.is_empty.ensures ∙ c.if-is_empty.true))))

pub walk-init : goal.walk-init
walk-init c = record {
  path = c.in_ok-enter.ensures.path;
  given = start c.args.entries.now _ (marks c.new-items.result.items) c.enter.new.frames.items c.new-frames.result.items (ap marks c.new-items.ensures.items) c.new-frames.ensures.items c.in_ok-enter.ensures.given;
}

pub next_child-requires : goal.next_child-requires
next_child-requires c =
    (path_pop c.args.entries.now None c.pop.new.self.items c.in-Some.frame (subst (IsPath c.args.entries.now None) c.in-Some.ensures.items c.walk.invariant.path)).2

pub enter-requires-in-Some-next_child-clause-path :
    goal.enter-requires-in-Some-next_child-clause-path
enter-requires-in-Some-next_child-clause-path c =
    let p = path_pop c.args.entries.now None c.pop.new.self.items c.in-Some.frame (subst (IsPath c.args.entries.now None) c.in-Some.ensures.items c.walk.invariant.path) in
    subst (IsPath c.args.entries.now None) (sym c.in_ok-push-in-Some-next_child.ensures.items) (path_push c.args.entries.now None c.pop.new.self.items _ p.0 p.1 p.2)

pub enter-requires-in-Some-next_child-clause-parent :
    goal.enter-requires-in-Some-next_child-clause-parent
enter-requires-in-Some-next_child-clause-parent c =
    let es = c.args.entries.now in
    let is = child_of es c.requires c.in-Some.frame.index c.in-Some.frame.next c.in-Some-next_child.child c.in-Some-next_child.ensures.child in
    is.parent ∙ sym (ap (top es None) c.in_ok-push-in-Some-next_child.ensures.items ∙ top_push es None c.pop.new.self.items _)

pub enter-requires-in-Some-next_child-clause-within :
    goal.enter-requires-in-Some-next_child-clause-within
enter-requires-in-Some-next_child-clause-within c =
    (child_of c.args.entries.now c.requires c.in-Some.frame.index c.in-Some.frame.next c.in-Some-next_child.child c.in-Some-next_child.ensures.child).exists

pub walk-smaller-in-Continue-branch-3 : goal.walk-smaller-in-Continue-branch-3
walk-smaller-in-Continue-branch-3 c =
    let es = c.args.entries.now in
    let rest = c.pop.new.self.items in
    let all = subst (IsPath es None) c.in-Some.ensures.items c.walk.invariant.path in
    let given = subst (λ x. marks c.walk.items.items ++ pending es (length es) x ≡ preorder es) c.in-Some.ensures.items c.walk.invariant.given in
    let room = given_room es (length es) _ rest c.in-Some.frame (marks c.walk.items.items) (preorder es) (path_depth es rest c.in-Some.frame all) given in
    falls (length (preorder es)) c.walk.items.items c.enter-in-Some-next_child.new.items.items room c.in_ok-enter-in-Some-next_child.ensures.grows

pub walk-preserved-in-Continue-branch-3 : goal.walk-preserved-in-Continue-branch-3
walk-preserved-in-Continue-branch-3 c =
    let es = c.args.entries.now in
    let items = marks c.walk.items.items in
    let rest = c.pop.new.self.items in
    let pushed = c.push.new.self.items in
    let child = c.in-Some-next_child.child in
    let next : Frame = record { index = c.in-Some.frame.index; next = c.in-Some.frame.next + 1 } in
    let all = subst (IsPath es None) c.in-Some.ensures.items c.walk.invariant.path in
    let given = subst (λ x. items ++ pending es (length es) x ≡ preorder es) c.in-Some.ensures.items c.walk.invariant.given in
    let deep = path_depth es rest c.in-Some.frame all in
    let same : length es - length pushed ≡ length es - length rest - 1 = omega (arith, ap length c.in_ok-push-in-Some-next_child.ensures.items, length_push rest next) in
    record {
      path = c.in_ok-enter-in-Some-next_child.ensures.path;
      given = c.in_ok-enter-in-Some-next_child.ensures.given ∙ ap (λ k. items ++ (tree_from k es child ++ pending es (length es) pushed)) same ∙ ap (λ x. items ++ (tree_from (length es - length rest - 1) es child ++ pending es (length es) x)) c.in_ok-push-in-Some-next_child.ensures.items ∙ next_child es (length es) _ rest c.in-Some.frame child items (preorder es) deep c.in-Some-next_child.ensures.child given;
    }

pub walk-smaller : goal.walk-smaller
walk-smaller c =
    let es = c.args.entries.now in
    let rest = c.pop.new.self.items in
    let all = subst (IsPath es None) c.in-Some.ensures.items c.walk.invariant.path in
    let given = subst (λ x. marks c.walk.items.items ++ pending es (length es) x ≡ preorder es) c.in-Some.ensures.items c.walk.invariant.given in
    let room = given_room es (length es) _ rest c.in-Some.frame (marks c.walk.items.items) (preorder es) (path_depth es rest c.in-Some.frame all) given in
    falls (length (preorder es)) c.walk.items.items c.push-in-None.new.self.items room (ap length c.in_ok-push-in-None.ensures.items ∙ length_push _ _)

pub walk-preserved : goal.walk-preserved
walk-preserved c =
    let es = c.args.entries.now in
    let rest = c.pop.new.self.items in
    let all = subst (IsPath es None) c.in-Some.ensures.items c.walk.invariant.path in
    let p = path_pop es None rest c.in-Some.frame all in
    let given = subst (λ x. marks c.walk.items.items ++ pending es (length es) x ≡ preorder es) c.in-Some.ensures.items c.walk.invariant.given in
    record {
      path = p.0;
      given = ap (λ x. map mark_of x ++ pending es (length es) rest) c.in_ok-push-in-None.ensures.items ∙ ap (λ x. x ++ pending es (length es) rest) (map_push mark_of c.walk.items.items _) ∙ done_step es (length es) _ rest c.in-Some.frame (marks c.walk.items.items) (preorder es) (path_depth es rest c.in-Some.frame all) c.in-None.ensures.child given;
    }

pub returns-clause-items : goal.returns-clause-items
returns-clause-items c =
    let es = c.args.entries.now in
    finish es (marks c.walk.items.items) (subst (λ x. marks c.walk.items.items ++ pending es (length es) x ≡ preorder es) (nil_from_length _ (sym c.walk.frames.ok.0 ∙ c.in_default.ensures.cases.0)) c.walk.invariant.given)

pub returns-clause-inside : goal.returns-clause-inside
returns-clause-inside c =
    subst (AreIn (length c.args.entries.now)) (sym (returns-clause-items c)) (preorder_in c.args.entries.now c.requires)
