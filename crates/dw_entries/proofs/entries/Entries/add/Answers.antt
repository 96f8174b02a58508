use Rattle.std.proofs.Common.{◌∙◌, ◌+◌, ap, length, arith}
use Rattle.dw_entries.proofs.Arenas.{arena_added_next, length-with_new_child}
use Rattle.std.proofs.lemmas.Result.{err_from_is_err_and}
use Rattle.dw_entries.proofs.entries.Entries.add.Goals as goal

pub invariant_of-self-2 : goal.invariant_of-self-2
invariant_of-self-2 c =
    arena_added_next _ _ c.add_entry.new.entries.items c.new-child.result.0 c.args.parent.0 c.args.tag.0 c.self.view_is c.new-child.ensures c.requires.parent_in c.requires.tagged c.requires.rooted c.in_ok-add_entry.ensures.ok c.self.invariant

pub returns-clause-count : goal.returns-clause-count
returns-clause-count c =
    let u = c.self.inside in
    let within = c.self.invariant.within in
    ap length c.in_ok-add_entry.ensures.ok ∙ length-with_new_child c.new-child.result.0 c.args.parent.0 c.args.tag.0 (u.reserved + 1) u.entries.items (omega (arith, within)) ∙ ap (λ w. w.reserved + 1) c.self.view_is

pub returns-in_err-add_entry-clause-id : goal.returns-in_err-add_entry-clause-id
returns-in_err-add_entry-clause-id c = rw (err_from_is_err_and c.from_residual.result c.from_residual.ensures.1).1 tt

pub returns-in_err-add_entry-clause-ok : goal.returns-in_err-add_entry-clause-ok
returns-in_err-add_entry-clause-ok c = rw (err_from_is_err_and c.from_residual.result c.from_residual.ensures.1).1 tt

pub returns-clause-err : goal.returns-clause-err
returns-clause-err c = tt

pub returns-clause-kept : goal.returns-clause-kept
returns-clause-kept c = tt

pub returns-in_err-add_entry-clause-count : goal.returns-in_err-add_entry-clause-count
returns-in_err-add_entry-clause-count c = rw (err_from_is_err_and c.from_residual.result c.from_residual.ensures.1).1 tt
