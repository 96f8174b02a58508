use Rattle.std.proofs.Common.{◌≡◌, ◌∙◌, ◌+◌, ◌-◌, sym, ap, subst, List, [], ◌∷◌, ◌++◌, Ok, Err, ⊎_elim, inl, inr, refl}
use Rattle.std.proofs.lemmas.List.{map-append}
use Rattle.dw_expr.specs.Trees.{Node}
use Rattle.dw_expr.specs.Views.{node_of, nodes_in}
use Rattle.dw_convert.specs.Lookups.{addresses_in}
use Rattle.dw_convert.proofs.Addresses.{is_err}
use Rattle.dw_convert.proofs.Nesting.{AreSoFar, none_yet, one_more, one_refused, all_done, nested_converted, nested_refused, flat_ok, flat_err, at_level}
use Rattle.dw_convert.proofs.expressions.+nested.Goals as goal

pub convert_operation-returns-in_default-clause-ok : goal.convert_operation-returns-in_default-clause-ok
convert_operation-returns-in_default-clause-ok g t c = flat_ok _ _ g.R.Reader.reading (goal.F-post g c.args.convert_address.now) (addresses_in g.R.Reader.reading c.args.unit) (g.C.ConvertDebugInfoRef.entries c.args.refs.now) (g.C.ConvertDebugInfoRef.infos c.args.refs.now) c.args.listing.now c.args.step.now c.args.depth c.convert_flat.result c.convert_flat.ensures

pub convert_operation-returns-in_default-clause-err : goal.convert_operation-returns-in_default-clause-err
convert_operation-returns-in_default-clause-err g t c = flat_err _ _ g.R.Reader.reading (goal.F-post g c.args.convert_address.now) (addresses_in g.R.Reader.reading c.args.unit) (g.C.ConvertDebugInfoRef.entries c.args.refs.now) (g.C.ConvertDebugInfoRef.infos c.args.refs.now) c.args.listing.now c.args.step.now c.args.depth c.convert_flat.result c.convert_flat.ensures

pub convert_operation-returns-in_err-inner-in-EntryValue-clause-err : goal.convert_operation-returns-in_err-inner-in-EntryValue-clause-err
convert_operation-returns-in_err-inner-in-EntryValue-clause-err g t c =
    let why = c.in_err-inner-in-EntryValue.field-0.0 in
    let e : c.from_residual.result ≡ Err why = is_err _ _ c.from_residual.ensures in
    rw e (⊎_elim (λ n. inl n) (λ h. inr (nested_refused _ _ g.R.Reader.reading _ _ _ _ c.args.listing.now c.args.step.now c.args.depth c.in-EntryValue.expression c.in-EntryValue.is (g.R.Reader.reading c.duplicate.result) c.duplicate.ensures why h)) c.in_err-inner-in-EntryValue.ensures.err)

pub convert_operation-returns-in_ok-inner-in-EntryValue-clause-ok : goal.convert_operation-returns-in_ok-inner-in-EntryValue-clause-ok
convert_operation-returns-in_ok-inner-in-EntryValue-clause-ok g t c = nested_converted _ _ g.R.Reader.reading _ _ _ _ c.args.listing.now c.args.step.now c.args.depth c.in-EntryValue.expression c.in-EntryValue.is (g.R.Reader.reading c.duplicate.result) c.duplicate.ensures c.in_ok-inner-in-EntryValue.inner c.in_ok-inner-in-EntryValue.ensures.ok

pub convert_within-returns-in_err-listing-clause-err : goal.convert_within-returns-in_err-listing-clause-err
convert_within-returns-in_err-listing-clause-err g t c =
    let why = c.in_err-listing.field-0.0 in
    let e : c.from_residual.result ≡ Err why = is_err _ _ c.from_residual.ensures in
    rw e (⊎_elim (λ n. inl n) (λ h. inr (at_level _ _ _ _ _ _ c.args.depth _ (Err why) c.if-depth-eq0.false (inl h))) c.in_err-listing.ensures.err)

pub convert_within-steps-init : goal.convert_within-steps-init
convert_within-steps-init g t c =
    let reading = g.R.Reader.reading in
    let answers = goal.F-post g c.args.convert_address.now in
    let addresses = addresses_in reading c.args.unit in
    let entries = g.C.ConvertDebugInfoRef.entries c.args.refs.now in
    let infos = g.C.ConvertDebugInfoRef.infos c.args.refs.now in
    let far : nodes_in c.in_ok-operations.operations.items ≡ [] = ap nodes_in c.in_ok-operations.ensures.items in
    none_yet _ _ reading answers addresses entries infos (reading c.args.expression.0) c.args.encoding c.deref-step-items.result.now (c.args.depth - 1) (nodes_in c.in_ok-operations.operations.items) far

pub convert_within-returns-in_err-operation-clause-err : goal.convert_within-returns-in_err-operation-clause-err
convert_within-returns-in_err-operation-clause-err g t c =
    let reading = g.R.Reader.reading in
    let answers = goal.F-post g c.args.convert_address.now in
    let addresses = addresses_in reading c.args.unit in
    let entries = g.C.ConvertDebugInfoRef.entries c.args.refs.now in
    let infos = g.C.ConvertDebugInfoRef.infos c.args.refs.now in
    let nodes = nodes_in c.steps.operations.items in
    let why = c.in_err-operation.field-0.0 in
    let e : c.from_residual-in_err-operation.result ≡ Err why = is_err _ _ c.from_residual-in_err-operation.ensures in
    rw e (⊎_elim (λ n. inl n) (λ h. inr (at_level answers addresses entries infos _ c.args.encoding c.args.depth _ (Err why) c.if-depth-eq0.false
    (inr (one_refused _ _ reading answers addresses entries infos (reading c.args.expression.0) c.args.encoding c.in_ok-listing.listing c.in_ok-listing.ensures.ok (c.args.depth - 1) c.deref-step-items.result.now c.deref-step-items.ensures.value c.steps.step-index c.step-item.result nodes c.steps-test.true c.step-item.is c.steps.invariant why h)))) c.in_err-operation.ensures.err)

pub convert_within-steps-preserved : goal.convert_within-steps-preserved
convert_within-steps-preserved g t c =
    let reading = g.R.Reader.reading in
    let answers = goal.F-post g c.args.convert_address.now in
    let addresses = addresses_in reading c.args.unit in
    let entries = g.C.ConvertDebugInfoRef.entries c.args.refs.now in
    let infos = g.C.ConvertDebugInfoRef.infos c.args.refs.now in
    let nodes = nodes_in c.steps.operations.items in
    let o = c.in_ok-operation.operation in
    let r = reading c.args.expression.0 in
    let more : nodes_in c.push.new.self.items ≡ nodes ++ node_of o ∷ [] = ap nodes_in c.in_ok-push.ensures.items ∙ map-append node_of c.steps.operations.items (o ∷ []) in
    subst (λ (ns : List Node). AreSoFar _ _ reading answers addresses entries infos r c.args.encoding c.deref-step-items.result.now (c.args.depth - 1) (c.steps.step-index + 1) ns) (sym more)
    (one_more _ _ reading answers addresses entries infos r c.args.encoding c.in_ok-listing.listing c.in_ok-listing.ensures.ok (c.args.depth - 1) c.deref-step-items.result.now c.deref-step-items.ensures.value c.steps.step-index c.step-item.result nodes c.steps-test.true c.step-item.is c.steps.invariant (node_of o) c.in_ok-operation.ensures.ok)

pub convert_within-returns-clause-ok : goal.convert_within-returns-clause-ok
convert_within-returns-clause-ok g t c =
    let reading = g.R.Reader.reading in
    let answers = goal.F-post g c.args.convert_address.now in
    let addresses = addresses_in reading c.args.unit in
    let entries = g.C.ConvertDebugInfoRef.entries c.args.refs.now in
    let infos = g.C.ConvertDebugInfoRef.infos c.args.refs.now in
    let nodes = nodes_in c.steps.operations.items in
    let r = reading c.args.expression.0 in
    rw c.from_operations.ensures (at_level answers addresses entries infos r.is_big c.args.encoding c.args.depth _ (Ok nodes) c.if-depth-eq0.false
    (all_done _ _ reading answers addresses entries infos r c.args.encoding c.in_ok-listing.listing c.in_ok-listing.ensures.ok (c.args.depth - 1) c.deref-step-items.result.now c.steps.step-index nodes c.deref-step-items.ensures.value c.steps-test.false c.steps.invariant))

pub convert_within-returns-then-depth-eq0-clause-ok : goal.convert_within-returns-then-depth-eq0-clause-ok
convert_within-returns-then-depth-eq0-clause-ok g t c = tt

pub convert_within-returns-then-depth-eq0-clause-err : goal.convert_within-returns-then-depth-eq0-clause-err
convert_within-returns-then-depth-eq0-clause-err g t c = inl refl

pub convert_within-returns-in_err-listing-clause-ok : goal.convert_within-returns-in_err-listing-clause-ok
convert_within-returns-in_err-listing-clause-ok g t c = rw (is_err _ _ c.from_residual.ensures) tt

pub convert_within-returns-in_err-operations-clause-ok : goal.convert_within-returns-in_err-operations-clause-ok
convert_within-returns-in_err-operations-clause-ok g t c = rw (is_err _ _ c.from_residual-in_err-operations.ensures) tt

pub convert_within-returns-in_err-operations-clause-err : goal.convert_within-returns-in_err-operations-clause-err
convert_within-returns-in_err-operations-clause-err g t c = rw (is_err _ _ c.from_residual-in_err-operations.ensures) (inl refl)

pub convert_within-returns-in_err-operation-clause-ok : goal.convert_within-returns-in_err-operation-clause-ok
convert_within-returns-in_err-operation-clause-ok g t c = rw (is_err _ _ c.from_residual-in_err-operation.ensures) tt

pub convert_within-returns-in_err-push-clause-ok : goal.convert_within-returns-in_err-push-clause-ok
convert_within-returns-in_err-push-clause-ok g t c = rw (is_err _ _ c.from_residual-in_err-push.ensures) tt

pub convert_within-returns-in_err-push-clause-err : goal.convert_within-returns-in_err-push-clause-err
convert_within-returns-in_err-push-clause-err g t c = rw (is_err _ _ c.from_residual-in_err-push.ensures) (inl refl)

pub convert_within-returns-clause-err : goal.convert_within-returns-clause-err
convert_within-returns-clause-err g t c = tt

pub convert_operation-returns-in_err-inner-in-EntryValue-clause-ok : goal.convert_operation-returns-in_err-inner-in-EntryValue-clause-ok
convert_operation-returns-in_err-inner-in-EntryValue-clause-ok g t c = rw (is_err _ _ c.from_residual.ensures) tt

pub convert_operation-returns-in_ok-inner-in-EntryValue-clause-err : goal.convert_operation-returns-in_ok-inner-in-EntryValue-clause-err
convert_operation-returns-in_ok-inner-in-EntryValue-clause-err g t c = tt
