use Rattle.std.proofs.lemmas.Int.{to_z-of_z}
use Rattle.dw_base.specs.declared.common.Encoding.{Encoding}
use Rattle.std.proofs.Common.{◌∙◌, sym, ap, refl, inr, SFits, w64, rules}
use Rattle.dw_base.specs.declared.constants.DwAt.{DwAt}
use Rattle.dw_base.specs.declared.constants.DwForm.{DwForm}
use Rattle.dw_read.specs.Orders.{value_order}
use Rattle.dw_read.specs.Values.{value_of}
use Rattle.dw_convert.specs.Attributes.{seen}
use Rattle.dw_convert.proofs.Formed.{ok_then, err_then, formed, present, declared}
use Rattle.dw_convert.proofs.Addresses.{is_err}
use Rattle.dw_convert.proofs.attribute.convert_attribute.Goals as goal

pub returns-in-None-clause-ok : goal.returns-in-None-clause-ok
returns-in-None-clause-ok g c = ok_then c.convert_value.result _ _ (λ i h. formed _ _ g.R.Reader.reading (goal.F-post g c.args.convert_address.now) (g.C.ConvertDebugInfoRef.entries c.args.refs.now) (g.C.ConvertDebugInfoRef.infos c.args.refs.now) c.args.unit c.args.files.now (seen g.R.Reader.reading c.args.attribute.now) (value_order g.R.Reader.reading c.value-value.result) c.name-name.result.0 (value_of g.R.Reader.reading c.value-value.result) _ (λ e. c.if-form.false (ap (λ (f : DwForm). f.0) c.form.ensures ∙ e)) (sym c.declared_number.ensures ∙ c.in-None.is) (ap (λ (n : DwAt). n.0) c.name-name.ensures) c.value-value.ensures.is c.value-value.ensures.order h) c.convert_value.ensures.ok

pub returns-in-None-clause-err : goal.returns-in-None-clause-err
returns-in-None-clause-err g c = err_then c.convert_value.result _ _ _ (λ e h. formed _ _ g.R.Reader.reading (goal.F-post g c.args.convert_address.now) (g.C.ConvertDebugInfoRef.entries c.args.refs.now) (g.C.ConvertDebugInfoRef.infos c.args.refs.now) c.args.unit c.args.files.now (seen g.R.Reader.reading c.args.attribute.now) (value_order g.R.Reader.reading c.value-value.result) c.name-name.result.0 (value_of g.R.Reader.reading c.value-value.result) _ (λ e. c.if-form.false (ap (λ (f : DwForm). f.0) c.form.ensures ∙ e)) (sym c.declared_number.ensures ∙ c.in-None.is) (ap (λ (n : DwAt). n.0) c.name-name.ensures) c.value-value.ensures.is c.value-value.ensures.order h) c.convert_value.ensures.err

pub returns-then-form-clause-text : goal.returns-then-form-clause-text
returns-then-form-clause-text g c = tt

pub returns-then-form-clause-err : goal.returns-then-form-clause-err
returns-then-form-clause-err g c = tt

pub returns-in_err-number-in-Some-clause-ok : goal.returns-in_err-number-in-Some-clause-ok
returns-in_err-number-in-Some-clause-ok g c = rw (is_err _ _ c.from_residual.ensures) tt

pub returns-in_err-number-in-Some-clause-text : goal.returns-in_err-number-in-Some-clause-text
returns-in_err-number-in-Some-clause-text g c = rw (is_err _ _ c.from_residual.ensures) tt

pub returns-in_ok-number-in-Some-clause-text : goal.returns-in_ok-number-in-Some-clause-text
returns-in_ok-number-in-Some-clause-text g c = tt

pub returns-in_ok-number-in-Some-clause-err : goal.returns-in_ok-number-in-Some-clause-err
returns-in_ok-number-in-Some-clause-err g c = tt

pub returns-in-None-clause-text : goal.returns-in-None-clause-text
returns-in-None-clause-text g c = c.convert_value.ensures.text

pub returns-then-form-clause-ok : goal.returns-then-form-clause-ok
returns-then-form-clause-ok g c = present _ _ g.R.Reader.reading (goal.F-post g c.args.convert_address.now) (g.C.ConvertDebugInfoRef.entries c.args.refs.now) (g.C.ConvertDebugInfoRef.infos c.args.refs.now) c.args.unit c.args.files.now (seen g.R.Reader.reading c.args.attribute.now) (sym (ap (λ (f : DwForm). f.0) c.form.ensures) ∙ c.if-form.true)

pub returns-in_err-number-in-Some-clause-err : goal.returns-in_err-number-in-Some-clause-err
returns-in_err-number-in-Some-clause-err g c =
    let why = c.in_err-number-in-Some.field-0.0 in
    let fits : SFits w64 c.in-Some.number = search rules in
    rw (is_err _ why c.from_residual.ensures) (inr (declared _ _ g.R.Reader.reading (goal.F-post g c.args.convert_address.now) (g.C.ConvertDebugInfoRef.entries c.args.refs.now) (g.C.ConvertDebugInfoRef.infos c.args.refs.now) c.args.unit c.args.files.now (seen g.R.Reader.reading c.args.attribute.now) _ _ _ _ _ _ (λ e. c.if-form.false (ap (λ (f : DwForm). f.0) c.form.ensures ∙ e)) (sym c.declared_number.ensures ∙ c.in-Some.is) (ap (λ (e : Encoding). e.version) c.encoding.ensures) (ap (λ (n : DwAt). n.0) c.name-name.ensures) (to_z-of_z w64 c.in-Some.number fits) c.in_err-number-in-Some.ensures refl))

pub returns-in_ok-number-in-Some-clause-ok : goal.returns-in_ok-number-in-Some-clause-ok
returns-in_ok-number-in-Some-clause-ok g c =
    let fits : SFits w64 c.in-Some.number = search rules in
    let answered : SFits w64 c.in_ok-number-in-Some.number = search rules in
    rw (to_z-of_z w64 c.in_ok-number-in-Some.number answered) (declared _ _ g.R.Reader.reading (goal.F-post g c.args.convert_address.now) (g.C.ConvertDebugInfoRef.entries c.args.refs.now) (g.C.ConvertDebugInfoRef.infos c.args.refs.now) c.args.unit c.args.files.now (seen g.R.Reader.reading c.args.attribute.now) _ _ _ _ _ _ (λ e. c.if-form.false (ap (λ (f : DwForm). f.0) c.form.ensures ∙ e)) (sym c.declared_number.ensures ∙ c.in-Some.is) (ap (λ (e : Encoding). e.version) c.encoding.ensures) (ap (λ (n : DwAt). n.0) c.name-name.ensures) (to_z-of_z w64 c.in-Some.number fits) c.in_ok-number-in-Some.ensures refl)
