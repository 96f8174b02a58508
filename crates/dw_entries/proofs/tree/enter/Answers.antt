use Rattle.std.proofs.Common.{◌≡◌, ◌++◌, ◌<◌, length, [], ◌∷◌, ap, sym, ◌∙◌, subst, None, map}
use Rattle.std.proofs.lemmas.Bool.{eqb-true, eqb-false}
use Rattle.std.proofs.lemmas.List.{map_push, nil_from_length, length-map}
use Rattle.std.proofs.Math.Nat.{pos_of_ne-zero}
use Rattle.dw_base.specs.Entries.{Open}
use Rattle.dw_entries.specs.Entries.{index_of, entry_at}
use Rattle.dw_entries.specs.Tree.{mark_of, marks}
use Rattle.dw_entries.specs.Walk.{IsPath, pending}
use Rattle.dw_entries.proofs.ChildReads.{children_read}
use Rattle.dw_entries.proofs.Walk.{path_push, path_room, enter_leaf, enter_branch}
use Rattle.std.proofs.lemmas.Result.{err_from_is_err_and}
use Rattle.dw_entries.proofs.tree.enter.Goals as goal

pub returns-in_ok-push-2-clause-path : goal.returns-in_ok-push-2-clause-path
returns-in_ok-push-2-clause-path c =
    subst (IsPath c.args.entries.now None) (sym c.in_ok-push-2.ensures.items) (path_push c.args.entries.now None c.args.frames.now.items _ c.requires.path c.requires.parent c.requires.within)

pub returns-in_ok-push-2-clause-given : goal.returns-in_ok-push-2-clause-given
returns-in_ok-push-2-clause-given c =
    let es = c.args.entries.now in
    let fs = c.args.frames.now.items in
    let i = c.args.index in
    let new = c.push-then-not-is_empty.new.self.items in
    let read = children_read es i c.index-entries-index.result c.child_ids.result.now c.requires.within c.index-entries-index.is c.child_ids.ensures in
    let some : 0 < length (entry_at es i).children = pos_of_ne-zero (λ z. eqb-false _ _ (sym c.is_empty.ensures ∙ c.if-not-is_empty.true) (sym (length-map c.child_ids.result.now index_of) ∙ ap length (sym read) ∙ z)) in
    ap (λ x. map mark_of x ++ pending es (length es) new) c.in_ok-push.ensures.items
    ∙ ap (λ x. x ++ pending es (length es) new) (map_push mark_of c.args.items.now.items _)
    ∙ ap (λ x. (marks c.args.items.now.items ++ Open i ∷ []) ++ pending es (length es) x) c.in_ok-push-2.ensures.items
    ∙ enter_branch es fs i (marks c.args.items.now.items) (path_room es fs i c.requires.path c.requires.parent c.requires.within) some

pub returns-else-not-is_empty-clause-given : goal.returns-else-not-is_empty-clause-given
returns-else-not-is_empty-clause-given c =
    let es = c.args.entries.now in
    let fs = c.args.frames.now.items in
    let i = c.args.index in
    let read = children_read es i c.index-entries-index.result c.child_ids.result.now c.requires.within c.index-entries-index.is c.child_ids.ensures in
    let none : (entry_at es i).children ≡ [] = read ∙ ap (map index_of) (nil_from_length _ (eqb-true _ _ (sym c.is_empty.ensures ∙ c.if-not-is_empty.false))) in
    ap (λ x. map mark_of x ++ pending es (length es) fs) c.in_ok-push.ensures.items
    ∙ ap (λ x. x ++ pending es (length es) fs) (map_push mark_of c.args.items.now.items _)
    ∙ enter_leaf es fs i (marks c.args.items.now.items) (path_room es fs i c.requires.path c.requires.parent c.requires.within) none

pub returns-in_err-push-clause-path : goal.returns-in_err-push-clause-path
returns-in_err-push-clause-path c = rw (err_from_is_err_and c.from_residual.result c.from_residual.ensures.1).1 tt

pub returns-in_err-push-clause-given : goal.returns-in_err-push-clause-given
returns-in_err-push-clause-given c = rw (err_from_is_err_and c.from_residual.result c.from_residual.ensures.1).1 tt

pub returns-in_err-push-clause-grows : goal.returns-in_err-push-clause-grows
returns-in_err-push-clause-grows c = rw (err_from_is_err_and c.from_residual.result c.from_residual.ensures.1).1 tt

pub returns-in_err-push-2-clause-path : goal.returns-in_err-push-2-clause-path
returns-in_err-push-2-clause-path c = rw (err_from_is_err_and c.from_residual-in_err-push-2.result c.from_residual-in_err-push-2.ensures.1).1 tt

pub returns-in_err-push-2-clause-given : goal.returns-in_err-push-2-clause-given
returns-in_err-push-2-clause-given c = rw (err_from_is_err_and c.from_residual-in_err-push-2.result c.from_residual-in_err-push-2.ensures.1).1 tt

pub returns-in_err-push-2-clause-grows : goal.returns-in_err-push-2-clause-grows
returns-in_err-push-2-clause-grows c = rw (err_from_is_err_and c.from_residual-in_err-push-2.result c.from_residual-in_err-push-2.ensures.1).1 tt
