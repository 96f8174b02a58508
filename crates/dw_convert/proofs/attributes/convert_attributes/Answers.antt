use Rattle.std.proofs.Common.{◌∙◌, sym, ap, [], ◌∷◌, ◌++◌, ⊎_elim, inl, inr, refl}
use Rattle.std.proofs.lemmas.Result.{IfOk-weaker, IfErr-weaker}
use Rattle.dw_base.specs.declared.constants.DwAt.{DwAt}
use Rattle.dw_sources.specs.Dropped.{is_dropped}
use Rattle.dw_convert.specs.Tables.{tables}
use Rattle.dw_convert.proofs.Addresses.{is_err}
use Rattle.dw_convert.proofs.Converting.{none_yet, passed, one_more, one_refused, all_done}
use Rattle.dw_convert.proofs.attributes.convert_attributes.Goals as goal

pub returns-in_err-value-clause-err : goal.returns-in_err-value-clause-err
returns-in_err-value-clause-err g c =
    let why = c.in_err-value.field-0.0 in
    let e = is_err _ why c.from_residual.ensures in
    let d = sym (ap (λ (n : DwAt). is_dropped n.0) c.name.ensures) ∙ sym c.is_dropped.ensures ∙ c.if-is_dropped.false in
    rw e (⊎_elim (λ n. inl n) (λ h. inr (one_refused _ _ g.R.Reader.reading _ _ _ c.args.unit c.args.files.now c.args.attributes.now c.attributes.attribute-index c.attribute-item.result _ c.attributes-test.true c.attribute-item.is _ _ _ c.attributes.invariant d why h)) c.in_err-value.ensures.err)

pub attributes-preserved : goal.attributes-preserved
attributes-preserved g c =
    let d = sym (ap (λ (n : DwAt). is_dropped n.0) c.name.ensures) ∙ sym c.is_dropped.ensures ∙ c.if-is_dropped.false in
    let v = c.in_ok-value.value in
    let p = c.in_ok-push.ensures.items ∙ ap (λ (n : DwAt). c.attributes.converted.items ++ (n, v) ∷ []) c.name-in-attributes.ensures in
    one_more _ _ g.R.Reader.reading _ _ _ c.args.unit c.args.files.now c.args.attributes.now c.attributes.attribute-index c.attribute-item.result _ c.attributes-test.true c.attribute-item.is _ _ _ c.attributes.invariant d v _ c.push.new.self.items c.in_ok-value.ensures.ok p

pub attributes-init : goal.attributes-init
attributes-init g c = none_yet _ _ g.R.Reader.reading (goal.F-post g c.args.convert_address.now) (g.C.ConvertDebugInfoRef.entries c.args.refs.now) (g.C.ConvertDebugInfoRef.infos c.args.refs.now) c.args.unit c.args.files.now c.args.attributes.now (tables c.args.strings.now c.args.line_strings.now c.args.ranges.now c.args.locations.now) c.new-converted.result.items c.new-converted.ensures.items

pub attributes-preserved-then-is_dropped : goal.attributes-preserved-then-is_dropped
attributes-preserved-then-is_dropped g c =
    let d = sym (ap (λ (n : DwAt). is_dropped n.0) c.name.ensures) ∙ sym c.is_dropped.ensures ∙ c.if-is_dropped.true in
    passed _ _ g.R.Reader.reading _ _ _ c.args.unit c.args.files.now c.args.attributes.now c.attributes.attribute-index c.attribute-item.result _ c.attributes-test.true c.attribute-item.is _ _ _ c.attributes.invariant d

pub returns-clause-ok : goal.returns-clause-ok
returns-clause-ok g c =
    let values = c.attributes.converted.items in
    IfOk-weaker c.once.result _ _ (λ v e. all_done _ _ g.R.Reader.reading (goal.F-post g c.args.convert_address.now) (g.C.ConvertDebugInfoRef.entries c.args.refs.now) (g.C.ConvertDebugInfoRef.infos c.args.refs.now) c.args.unit c.args.files.now c.args.attributes.now c.attributes.attribute-index _ values v.items _ c.attributes-test.false c.attributes.invariant e) c.once.ensures.ok

pub returns-in_err-value-clause-ok : goal.returns-in_err-value-clause-ok
returns-in_err-value-clause-ok g c = rw (is_err _ _ c.from_residual.ensures) tt

pub returns-in_err-push-clause-ok : goal.returns-in_err-push-clause-ok
returns-in_err-push-clause-ok g c = rw (is_err _ _ c.from_residual-in_err-push.ensures) tt

pub returns-in_err-push-clause-err : goal.returns-in_err-push-clause-err
returns-in_err-push-clause-err g c = rw (is_err _ _ c.from_residual-in_err-push.ensures) (inl refl)

pub returns-clause-err : goal.returns-clause-err
returns-clause-err g c = IfErr-weaker c.once.result _ _ (λ e h. inl h) c.once.ensures.err
