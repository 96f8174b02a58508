use Rattle.std.proofs.Common.{◌≡◌, ◌∙◌, sym, ap, ◌≤◌, ◌++◌, ◌∷◌, [], arith, vec_len, length}
use Rattle.dw_entries.specs.Entries.{blank_entry, filled_up}
use Rattle.dw_entries.proofs.Filled.{filled_up-same, filled_up-push}
use Rattle.std.proofs.lemmas.Result.{err_from_is_err_and}
use Rattle.dw_entries.proofs.arena.fill_up.Goals as goal

pub blanks-init : goal.blanks-init
blanks-init c =
    let r = c.in_ok-reserve.ensures in
    let es = c.args.entries.now in
    let len = r.len in
    let count : vec_len c.reserve.new.self ≡ length es.items = r.len ∙ es.ok.0 in
    record {
      grown = omega (arith, len);
      within = omega (arith, len, c.requires);
      room = omega (arith, len, r.ok, c.len.ensures, c.requires);
      items = r.items ∙ sym (filled_up-same (vec_len c.reserve.new.self) es.items count);
    }

pub blanks-preserved : goal.blanks-preserved
blanks-preserved c =
    let p = c.in_ok-push.ensures in
    let i = c.blanks.invariant in
    let es = c.args.entries.now in
    let n = vec_len c.blanks.entries in
    let id : c.new-id.result.0 ≡ n = c.new-id.ensures ∙ c.len-in-blanks-2.ensures in
    let enough : length es.items ≤ n = omega (arith, i.grown, es.ok.0) in
    record {
      grown = omega (arith, p.len, i.grown);
      within = omega (arith, p.len, c.blanks-test.true, c.len-in-blanks.ensures);
      room = omega (arith, p.capacity, i.room);
      items = p.items ∙ ap (λ x. c.blanks.entries.items ++ x ∷ []) (c.blank.ensures ∙ ap blank_entry id) ∙ ap (λ xs. xs ++ blank_entry n ∷ []) i.items ∙ filled_up-push n es.items enough ∙ ap (λ k. filled_up k es.items) (sym p.len);
    }

pub returns-in_err-reserve-clause-ok : goal.returns-in_err-reserve-clause-ok
returns-in_err-reserve-clause-ok c = rw (err_from_is_err_and c.from_residual.result c.from_residual.ensures.1).1 tt

pub returns-in_err-push-clause-ok : goal.returns-in_err-push-clause-ok
returns-in_err-push-clause-ok c = rw (err_from_is_err_and c.from_residual-in_err-push.result c.from_residual-in_err-push.ensures.1).1 tt

pub returns-clause-err : goal.returns-clause-err
returns-clause-err c = tt

pub returns-clause-kept : goal.returns-clause-kept
returns-clause-kept c = tt
