use Rattle.std.proofs.Common.{◌≡◌, ◌∙◌, ◌++◌, ◌+◌, ◌||◌, ◌<◌, ◌∷◌, [], drop, ap, sym, length, refl, arith, Err}
use Rattle.std.proofs.lemmas.Bool.{or_from, or_parts}
use Rattle.std.proofs.lemmas.List.{at_drop_all}
use Rattle.std.proofs.lemmas.Result.{err_from_is_err_and}
use Rattle.dw_expr.specs.Places.{known_by, place_by}
use Rattle.dw_expr.specs.Spelling.{starts_from, node_part, parts_of, expression_size}
use Rattle.dw_expr.specs.Causes.{length_fails, nodes_unplaced, size_fails}
use Rattle.dw_expr.specs.Views.{node_of, nodes_in}
use Rattle.dw_expr.proofs.SizeLaws.{length_none, size_more, unplaced_more, size_fails_at, size_long_at}
use Rattle.dw_expr.proofs.PartLaws.{length-starts, length-all_parts, starts_next, starts_done, memory_or, vec_err_at}
use Rattle.dw_expr.proofs.op.write.starts.Goals as goal

pub loop-operation-init : goal.loop-operation-init
loop-operation-init g c =
    let e = c.args.encoding in
    let known = known_by g.P.EntryPlaces.places c.args.places in
    let xs = c.args.operations.now in
    record {
      begun = ap (λ l. l ++ starts_from 0 (parts_of e (place_by known) (nodes_in xs))) c.in_ok-all.ensures.items;
      total = omega arith;
      short = length_none;
      placed = λ err. refl;
    }

pub loop-operation-preserved : goal.loop-operation-preserved
loop-operation-preserved g c =
    let e = c.args.encoding in
    let known = known_by g.P.EntryPlaces.places c.args.places in
    let xs = c.args.operations.now in
    let i = c.loop-operation.operation-index in
    let inv = c.loop-operation.invariant in
    let o = c.operation-item.result in
    let is = c.operation-item.is in
    let below : i < length xs = c.loop-operation-test.true in
    let sized = c.in_ok-size.ensures in
    let summed = c.in_ok-at.ensures in
    let at : c.in_ok-at.at ≡ c.loop-operation.at + (node_part e (place_by known) (node_of o)).size = summed.0 ∙ ap (λ n. c.loop-operation.at + n) sized.0 in
    let rest = parts_of e (place_by known) (nodes_in (drop (i + 1) xs)) in
    record {
      begun =
          ap (λ l. l ++ starts_from c.in_ok-at.at rest) c.in_ok-push.ensures.items
          ∙ ap (λ n. (c.loop-operation.all.items ++ c.loop-operation.at ∷ []) ++ starts_from n rest) at
          ∙ sym (starts_next e known c.loop-operation.all.items c.loop-operation.at xs i o below is)
          ∙ inv.begun;
      total = omega (arith, at, inv.total, size_more e known xs i o below is);
      short = λ err. ap (λ n. length_fails n err) summed.0 ∙ summed.1 err;
      placed = λ err.
          let none = (or_parts (length_fails (node_part e (place_by known) (node_of o)).size err) _ (sized.1 err)).1 in
          sym (unplaced_more e known xs i o err below is ∙ ap (λ b. b || nodes_unplaced e known (nodes_in (drop (i + 1) xs)) err) none) ∙ inv.placed err;
    }

pub returns-in_err-size-clause-err : goal.returns-in_err-size-clause-err
returns-in_err-size-clause-err g c =
    let e = c.args.encoding in
    let known = known_by g.P.EntryPlaces.places c.args.places in
    let xs = c.args.operations.now in
    let i = c.loop-operation.operation-index in
    let inv = c.loop-operation.invariant in
    let o = c.operation-item.result in
    let is = c.operation-item.is in
    let below : i < length xs = c.loop-operation-test.true in
    let p = err_from_is_err_and c.from_residual-in_err-size.result c.from_residual-in_err-size.ensures.1 in
    let err = c.in_err-size.field-0.0 in
    vec_err_at c.from_residual-in_err-size.result _ err (p.1 ∙ ap Err p.2)
    (memory_or e known (size_fails e known (nodes_in xs)) err (size_fails_at e known xs i o c.loop-operation.at err below is inv.total (inv.placed err) c.in_err-size.ensures))

pub returns-in_err-at-clause-err : goal.returns-in_err-at-clause-err
returns-in_err-at-clause-err g c =
    let e = c.args.encoding in
    let known = known_by g.P.EntryPlaces.places c.args.places in
    let xs = c.args.operations.now in
    let i = c.loop-operation.operation-index in
    let inv = c.loop-operation.invariant in
    let o = c.operation-item.result in
    let is = c.operation-item.is in
    let below : i < length xs = c.loop-operation-test.true in
    let p = err_from_is_err_and c.from_residual-in_err-at.result c.from_residual-in_err-at.ensures.1 in
    let err = c.in_err-at.field-0.0 in
    vec_err_at c.from_residual-in_err-at.result _ err (p.1 ∙ ap Err p.2)
    (memory_or e known (size_fails e known (nodes_in xs)) err (size_long_at e known xs (c.loop-operation.at + c.in_ok-size.size) err (omega (arith, inv.total, size_more e known xs i o below is, c.in_ok-size.ensures.0)) c.in_err-at.ensures))

pub returns-clause-ok : goal.returns-clause-ok
returns-clause-ok g c =
    let e = c.args.encoding in
    let known = known_by g.P.EntryPlaces.places c.args.places in
    let xs = c.args.operations.now in
    let i = c.loop-operation.operation-index in
    let inv = c.loop-operation.invariant in
    let past = c.loop-operation-test.false in
    c.in_ok-push-2.ensures.items ∙ sym (starts_done e known c.loop-operation.all.items c.loop-operation.at xs i past) ∙ inv.begun

pub returns-clause-count : goal.returns-clause-count
returns-clause-count g c =
    let e = c.args.encoding in
    let known = known_by g.P.EntryPlaces.places c.args.places in
    let xs = c.args.operations.now in
    let i = c.loop-operation.operation-index in
    let inv = c.loop-operation.invariant in
    let past = c.loop-operation-test.false in
    let all = c.in_ok-push-2.ensures.items ∙ sym (starts_done e known c.loop-operation.all.items c.loop-operation.at xs i past) ∙ inv.begun in
    ap length all ∙ length-starts 0 (parts_of e (place_by known) (nodes_in xs)) ∙ ap (λ n. n + 1) (length-all_parts e known xs)

pub returns-clause-sound : goal.returns-clause-sound
returns-clause-sound g c =
    let e = c.args.encoding in
    let known = known_by g.P.EntryPlaces.places c.args.places in
    let xs = c.args.operations.now in
    let i = c.loop-operation.operation-index in
    let inv = c.loop-operation.invariant in
    let past = c.loop-operation-test.false in
    let done = at_drop_all (λ l. expression_size e (place_by known) (nodes_in l)) xs i past in
    let total : c.loop-operation.at ≡ expression_size e (place_by known) (nodes_in xs) = omega (arith, inv.total, done) in
    λ err.
    or_from (length_fails (expression_size e (place_by known) (nodes_in xs)) err) _ (ap (λ n. length_fails n err) (sym total) ∙ inv.short err)
    (sym (inv.placed err) ∙ at_drop_all (λ l. nodes_unplaced e known (nodes_in l) err) xs i past)
