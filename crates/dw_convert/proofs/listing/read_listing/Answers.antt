use Rattle.std.proofs.Common.{◌≡◌, ◌∙◌, sym, ap, subst, ℕ, ◌-◌, List, [], ◌∷◌, ◌++◌, refl, inl}
use Rattle.dw_sources.proofs.Progress.{fewer_left}
use Rattle.dw_convert.specs.declared.listing.Step.{Step as HeldStep}
use Rattle.dw_convert.proofs.Addresses.{is_err}
use Rattle.dw_convert.proofs.Stepping.{Stands, passes_one, is_over, stands_first, stands_more, stands_last}
use Rattle.dw_convert.proofs.listing.read_listing.Goals as goal

pub operations-init : goal.operations-init
operations-init g c =
    let places : c.push.new.self.items ≡ 0 ∷ [] = c.in_ok-push.ensures.items ∙ ap (λ (xs : List ℕ). xs ++ 0 ∷ []) c.new-begins.ensures.items in
    subst (λ (steps : List (HeldStep _ _)). Stands _ _ g.R.Reader.reading (g.R.Reader.reading c.args.expression.0) c.args.encoding c.place-begin.result c.new-operations.result steps c.push.new.self.items) (sym c.new-steps.ensures.items)
    (stands_first _ _ g.R.Reader.reading (g.R.Reader.reading c.args.expression.0) c.args.encoding (g.met.R.Reader.is_reading c.args.expression.0) c.args.expression c.new-operations.result c.place-begin.result c.push.new.self.items refl c.new-operations.ensures c.place-begin.ensures places)

pub operations-preserved : goal.operations-preserved
operations-preserved g c =
    let reading = g.R.Reader.reading in
    let p = passes_one _ _ reading c.operations.operations c.next.new.self _ c.in-Some.operation c.in_ok-operation.ensures c.in-Some.is in
    rw (c.in_ok-push-2.ensures.items, c.in_ok-push-3.ensures.items) (stands_more _ _ reading (reading c.args.expression.0) c.args.encoding (g.met.R.Reader.is_reading c.args.expression.0) c.place-begin.result c.operations.operations c.next.new.self c.operations.steps.items c.operations.begins.items c.in-Some.operation _ (g.met.R.Reader.is_reading c.next.new.self.input) c.operations.invariant p (ap (λ (n : ℕ). n - c.place-begin.result) c.place.ensures))

pub operations-smaller : goal.operations-smaller
operations-smaller g c =
    let reading = g.R.Reader.reading in
    let is = g.met.R.Reader.is_reading in
    let p = passes_one _ _ reading c.operations.operations c.next.new.self _ c.in-Some.operation c.in_ok-operation.ensures c.in-Some.is in
    fewer_left _ _ (reading c.operations.operations.input) (reading c.next.new.self.input) _ (is c.operations.operations.input) (is c.next.new.self.input) p.operation p.progress

pub returns-clause-ok : goal.returns-clause-ok
returns-clause-ok g c =
    let reading = g.R.Reader.reading in
    let i = c.operations.invariant in
    record {
      encoding = refl;
      read = stands_last _ _ reading (reading c.args.expression.0) c.args.encoding (g.met.R.Reader.is_reading c.args.expression.0) c.place-begin.result c.operations.operations c.next.new.self c.operations.steps.items c.operations.begins.items i (is_over _ _ reading c.operations.operations c.next.new.self _ c.in_ok-operation.ensures c.in_default.is);
      begins = i.begins;
      rising = i.rising;
      order = i.order;
    }

pub returns-in_err-push-clause-ok : goal.returns-in_err-push-clause-ok
returns-in_err-push-clause-ok g c = rw (is_err _ _ c.from_residual.ensures) tt

pub returns-in_err-operation-clause-ok : goal.returns-in_err-operation-clause-ok
returns-in_err-operation-clause-ok g c = rw (is_err _ _ c.from_residual-in_err-operation.ensures) tt

pub returns-in_err-push-2-clause-ok : goal.returns-in_err-push-2-clause-ok
returns-in_err-push-2-clause-ok g c = rw (is_err _ _ c.from_residual-in_err-push-2.ensures) tt

pub returns-in_err-push-3-clause-ok : goal.returns-in_err-push-3-clause-ok
returns-in_err-push-3-clause-ok g c = rw (is_err _ _ c.from_residual-in_err-push-3.ensures) tt

pub returns-clause-err : goal.returns-clause-err
returns-clause-err g c = tt

pub returns-in_err-push-clause-err : goal.returns-in_err-push-clause-err
returns-in_err-push-clause-err g c = rw (is_err _ _ c.from_residual.ensures) (inl refl)

pub returns-in_err-push-2-clause-err : goal.returns-in_err-push-2-clause-err
returns-in_err-push-2-clause-err g c = rw (is_err _ _ c.from_residual-in_err-push-2.ensures) (inl refl)

pub returns-in_err-push-3-clause-err : goal.returns-in_err-push-3-clause-err
returns-in_err-push-3-clause-err g c = rw (is_err _ _ c.from_residual-in_err-push-3.ensures) (inl refl)
