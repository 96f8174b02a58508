use Rattle.std.specs.Prelude.{◌≡◌, Ok, Err, refl}
use Rattle.std.proofs.Common.{rules, inl, inr, ⊎_elim, to_z, of_z, w64}
use Rattle.dw_frame.specs.ConvertOrders.{order_of}
use Rattle.dw_frame.proofs.ConvertLaws.{is_err}
use Rattle.dw_frame.proofs.PlainInstructions.{plain_becomes, plain_refused}
use Rattle.dw_frame.proofs.convert_instruction.convert_instruction.Goals as goal

pub returns-in_default-clause-ok : goal.returns-in_default-clause-ok
returns-in_default-clause-ok g c =
    let reading = g.R.Reader.reading in
    let factor : to_z w64 (of_z w64 c.args.factor) ≡ c.args.factor = search rules in
    let is = rw factor at c.convert_plain.ensures in
    plain_becomes _ _ reading (goal.F-post g c.args.convert_address.now) (order_of reading c.args.instruction) c.args.encoding c.args.factor c.args.instruction c.convert_plain.result
    (record { frame = c.in_default.not-DefCfaExpression; saved = c.in_default.not-Expression; valued = c.in_default.not-ValExpression }) is

pub returns-in_default-clause-err : goal.returns-in_default-clause-err
returns-in_default-clause-err g c =
    let reading = g.R.Reader.reading in
    let factor : to_z w64 (of_z w64 c.args.factor) ≡ c.args.factor = search rules in
    let is = rw factor at c.convert_plain.ensures in
    plain_refused _ _ reading (goal.F-post g c.args.convert_address.now) (order_of reading c.args.instruction) c.args.encoding c.args.factor c.args.instruction c.convert_plain.result
    (record { frame = c.in_default.not-DefCfaExpression; saved = c.in_default.not-Expression; valued = c.in_default.not-ValExpression }) is

pub returns-in_err-expression-in-DefCfaExpression-clause-ok : goal.returns-in_err-expression-in-DefCfaExpression-clause-ok
returns-in_err-expression-in-DefCfaExpression-clause-ok g c = rw (is_err _ _ c.from_residual.ensures) tt

pub returns-in_ok-expression-in-DefCfaExpression-clause-err : goal.returns-in_ok-expression-in-DefCfaExpression-clause-err
returns-in_ok-expression-in-DefCfaExpression-clause-err g c = tt

pub returns-in_err-expression-in-Expression-clause-ok : goal.returns-in_err-expression-in-Expression-clause-ok
returns-in_err-expression-in-Expression-clause-ok g c = rw (is_err _ _ c.from_residual-in_err-expression-in-Expression.ensures) tt

pub returns-in_ok-expression-in-Expression-clause-err : goal.returns-in_ok-expression-in-Expression-clause-err
returns-in_ok-expression-in-Expression-clause-err g c = tt

pub returns-in_err-expression-in-ValExpression-clause-ok : goal.returns-in_err-expression-in-ValExpression-clause-ok
returns-in_err-expression-in-ValExpression-clause-ok g c = rw (is_err _ _ c.from_residual-in_err-expression-in-ValExpression.ensures) tt

pub returns-in_ok-expression-in-ValExpression-clause-err : goal.returns-in_ok-expression-in-ValExpression-clause-err
returns-in_ok-expression-in-ValExpression-clause-err g c = tt

pub returns-in_ok-expression-in-DefCfaExpression-clause-ok : goal.returns-in_ok-expression-in-DefCfaExpression-clause-ok
returns-in_ok-expression-in-DefCfaExpression-clause-ok g c =
    rw c.in-DefCfaExpression.is (Ok c.in_ok-expression-in-DefCfaExpression.expression, c.in_ok-expression-in-DefCfaExpression.ensures.ok, refl)

pub returns-in_err-expression-in-DefCfaExpression-clause-err : goal.returns-in_err-expression-in-DefCfaExpression-clause-err
returns-in_err-expression-in-DefCfaExpression-clause-err g c =
    let why = c.in_err-expression-in-DefCfaExpression.field-0.0 in
    let e : c.from_residual.result ≡ Err why = is_err _ _ c.from_residual.ensures in
    rw (e, c.in-DefCfaExpression.is) (⊎_elim (λ n. inl n) (λ h. inr (Err why, h, refl)) c.in_err-expression-in-DefCfaExpression.ensures.err)

pub returns-in_ok-expression-in-Expression-clause-ok : goal.returns-in_ok-expression-in-Expression-clause-ok
returns-in_ok-expression-in-Expression-clause-ok g c =
    rw c.in-Expression.is (Ok c.in_ok-expression-in-Expression.expression, c.in_ok-expression-in-Expression.ensures.ok, refl)

pub returns-in_err-expression-in-Expression-clause-err : goal.returns-in_err-expression-in-Expression-clause-err
returns-in_err-expression-in-Expression-clause-err g c =
    let why = c.in_err-expression-in-Expression.field-0.0 in
    let e : c.from_residual-in_err-expression-in-Expression.result ≡ Err why = is_err _ _ c.from_residual-in_err-expression-in-Expression.ensures in
    rw (e, c.in-Expression.is) (⊎_elim (λ n. inl n) (λ h. inr (Err why, h, refl)) c.in_err-expression-in-Expression.ensures.err)

pub returns-in_ok-expression-in-ValExpression-clause-ok : goal.returns-in_ok-expression-in-ValExpression-clause-ok
returns-in_ok-expression-in-ValExpression-clause-ok g c =
    rw c.in-ValExpression.is (Ok c.in_ok-expression-in-ValExpression.expression, c.in_ok-expression-in-ValExpression.ensures.ok, refl)

pub returns-in_err-expression-in-ValExpression-clause-err : goal.returns-in_err-expression-in-ValExpression-clause-err
returns-in_err-expression-in-ValExpression-clause-err g c =
    let why = c.in_err-expression-in-ValExpression.field-0.0 in
    let e : c.from_residual-in_err-expression-in-ValExpression.result ≡ Err why = is_err _ _ c.from_residual-in_err-expression-in-ValExpression.ensures in
    rw (e, c.in-ValExpression.is) (⊎_elim (λ n. inl n) (λ h. inr (Err why, h, refl)) c.in_err-expression-in-ValExpression.ensures.err)
