use Rattle.std.proofs.Common.{◌∙◌, sym, ℕ}
use Rattle.std.proofs.lemmas.Result.{err_from_is_err_and, IfOk-weaker, IfErr-weaker}
use Rattle.dw_base.specs.Forms.{Operand}
use Rattle.dw_read.specs.Kinds.{kind_in_grammar}
use Rattle.dw_read.specs.FormReasons.{direct_read, indirect_read, form_read}
use Rattle.dw_read.proofs.Chain.{took, went}
use Rattle.dw_read.proofs.OperandLaws.{kind_some, kind_missing, form_unknown, form_indirect, form_direct, form_direct_err}
use Rattle.dw_read.proofs.operand.read_form.Goals as goal

pub returns-in_default-clause-err : goal.returns-in_default-clause-err
returns-in_default-clause-err g c = form_unknown (g.R.Reader.reading c.args.input.now).is_big c.args.encoding c.args.form.0 _ (kind_missing c.args.encoding c.args.form.0 _ c.in_default.is c.kind_of.ensures.is)

pub returns-in-Indirect-clause-ok : goal.returns-in-Indirect-clause-ok
returns-in-Indirect-clause-ok g c =
    let s = kind_some c.args.encoding c.args.form.0 _ _ c.in-Some.is c.kind_of.ensures.is in
    let q = sym (form_indirect (g.R.Reader.reading c.args.input.now).is_big c.args.encoding c.args.form.0 _ _ s c.in-Indirect.is) in
    IfOk-weaker c.read_indirect.result _ _ (λ x h. took (ℕ × Operand) (form_read (g.R.Reader.reading c.args.input.now).is_big c.args.encoding c.args.form.0) _ _ _ (went (ℕ × Operand) (indirect_read (g.R.Reader.reading c.args.input.now).is_big c.args.encoding) _ _ _ h) (q ∙ h.value)) c.read_indirect.ensures.ok

pub returns-in-Indirect-clause-err : goal.returns-in-Indirect-clause-err
returns-in-Indirect-clause-err g c =
    let s = kind_some c.args.encoding c.args.form.0 _ _ c.in-Some.is c.kind_of.ensures.is in
    let q = sym (form_indirect (g.R.Reader.reading c.args.input.now).is_big c.args.encoding c.args.form.0 _ _ s c.in-Indirect.is) in
    IfErr-weaker c.read_indirect.result _ _ (λ e h. q ∙ h) c.read_indirect.ensures.err

pub returns-in_err-operand-in_default-kind : goal.returns-in_err-operand-in_default-kind
returns-in_err-operand-in_default-kind g c =
    let s = kind_some c.args.encoding c.args.form.0 _ _ c.in-Some.is c.kind_of.ensures.is in
    let p = err_from_is_err_and c.from_residual.result c.from_residual.ensures.1 in
    rw (p.1, p.2) (record { ok = tt; order = tt; err = form_direct_err (g.R.Reader.reading c.args.input.now).is_big c.args.encoding c.args.form.0 _ _ _ s c.in_default-kind.not-Indirect c.in_err-operand-in_default-kind.ensures.err })

pub returns-in_ok-operand-in_default-kind : goal.returns-in_ok-operand-in_default-kind
returns-in_ok-operand-in_default-kind g c =
    let s = kind_some c.args.encoding c.args.form.0 _ _ c.in-Some.is c.kind_of.ensures.is in
    let o = c.in_ok-operand-in_default-kind.ensures in
    record {
      ok = took (ℕ × Operand) (form_read (g.R.Reader.reading c.args.input.now).is_big c.args.encoding c.args.form.0) _ _ _ (went Operand (direct_read (g.R.Reader.reading c.args.input.now).is_big (kind_in_grammar c.in-Some.kind)) _ _ _ o.ok) (form_direct (g.R.Reader.reading c.args.input.now).is_big c.args.encoding c.args.form.0 _ _ _ _ s c.in_default-kind.not-Indirect o.ok.value);
      order = o.order;
      err = tt;
    }

pub returns-in_default-clause-ok : goal.returns-in_default-clause-ok
returns-in_default-clause-ok g c = tt

pub returns-in_default-clause-order : goal.returns-in_default-clause-order
returns-in_default-clause-order g c = tt
