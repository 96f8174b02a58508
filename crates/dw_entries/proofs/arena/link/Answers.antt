use Rattle.dw_entries.proofs.Changed.{linked_at}
use Rattle.std.proofs.lemmas.Result.{err_from_is_err_and}
use Rattle.dw_entries.proofs.arena.link.Goals as goal

pub returns-clause-ok : goal.returns-clause-ok
returns-clause-ok c =
    linked_at c.args.child.0 c.args.parent.0 c.args.tag.0 _ _ _ _ _ _ _ _ c.index.ensures c.index-2.ensures c.in_ok-add_child.ensures.ok c.place_under.ensures c.args.entries.now.ok.0 c.requires.parent_in c.requires.child_in c.index_mut-above.ensures.value c.index_mut-entry.ensures.value

pub returns-in_err-add_child-clause-ok : goal.returns-in_err-add_child-clause-ok
returns-in_err-add_child-clause-ok c = rw (err_from_is_err_and c.from_residual.result c.from_residual.ensures.1).1 tt

pub returns-clause-err : goal.returns-clause-err
returns-clause-err c = tt

pub returns-clause-kept : goal.returns-clause-kept
returns-clause-kept c = tt
