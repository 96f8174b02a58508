use Rattle.std.proofs.Common.{◌≡◌, ◌∙◌, ap, arith, take, vec_len, length}
use Rattle.dw_entries.specs.Entries.{filled_up}
use Rattle.std.proofs.lemmas.Result.{on_err_weaker, err_from_is_err_and}
use Rattle.dw_entries.proofs.Filled.{length-filled_up, take-filled_up}
use Rattle.dw_entries.proofs.arena.add_entry.Goals as goal

pub link-linked-requires-clause-child_in : goal.link-linked-requires-clause-child_in
link-linked-requires-clause-child_in c =
    let es = c.args.entries.now in
    let new = c.fill_up.new.entries in
    let len : vec_len new ≡ length (filled_up c.args.count es.items) = new.ok.0 ∙ ap length c.in_ok-fill_up.ensures.ok in
    omega (arith, c.requires.child_in, len, length-filled_up c.args.count es.items (omega (arith, c.requires.within, es.ok.0)))

pub link-linked-requires-clause-parent_in : goal.link-linked-requires-clause-parent_in
link-linked-requires-clause-parent_in c =
    let es = c.args.entries.now in
    let new = c.fill_up.new.entries in
    let len : vec_len new ≡ length (filled_up c.args.count es.items) = new.ok.0 ∙ ap length c.in_ok-fill_up.ensures.ok in
    omega (arith, c.requires.parent_in, len, length-filled_up c.args.count es.items (omega (arith, c.requires.within, es.ok.0)))

pub returns-then-is_err-clause-kept : goal.returns-then-is_err-clause-kept
returns-then-is_err-clause-kept c =
    let es = c.args.entries.now in
    let n = c.len-old_count.result in
    on_err_weaker c.link-linked.result (λ h. c.truncate.ensures.items ∙ ap (take n) (h ∙ c.in_ok-fill_up.ensures.ok) ∙ ap (λ k. take k (filled_up c.args.count es.items)) (c.len-old_count.ensures ∙ es.ok.0) ∙ take-filled_up c.args.count es.items (omega (arith, c.requires.within, es.ok.0))) c.link-linked.ensures.kept

pub returns-in_err-fill_up-clause-ok : goal.returns-in_err-fill_up-clause-ok
returns-in_err-fill_up-clause-ok c = rw (err_from_is_err_and c.from_residual.result c.from_residual.ensures.1).1 tt
