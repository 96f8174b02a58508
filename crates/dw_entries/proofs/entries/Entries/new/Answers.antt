use Rattle.std.proofs.Common.{◌∙◌, ap, ◌++◌, ◌∷◌, [], arith}
use Rattle.dw_entries.specs.Entries.{blank_entry}
use Rattle.dw_entries.proofs.Arenas.{arena_new}
use Rattle.std.proofs.lemmas.Result.{err_from_is_err_and}
use Rattle.dw_entries.proofs.entries.Entries.new.Goals as goal

pub invariant_of-result : goal.invariant_of-result
invariant_of-result c =
    let root = c.set_tag.ensures in
    let blank = c.blank-root.ensures ∙ ap blank_entry c.new.ensures in
    arena_new c.set_tag.new.self c.push.new.self.items (c.in_ok-push.ensures.items ∙ ap (λ xs. xs ++ c.set_tag.new.self ∷ []) c.new-entries.ensures.items) (ap (λ e. e.id) root ∙ ap (λ e. e.id) blank) (ap (λ e. e.parent) root ∙ ap (λ e. e.parent) blank) (λ none. omega (arith, none, ap (λ e. e.tag) root)) (ap (λ e. e.children) root ∙ ap (λ e. e.children) blank)

pub returns-in_err-push-clause-ok : goal.returns-in_err-push-clause-ok
returns-in_err-push-clause-ok c = rw (err_from_is_err_and c.from_residual.result c.from_residual.ensures.1).1 tt

pub returns-clause-err : goal.returns-clause-err
returns-clause-err c = tt
