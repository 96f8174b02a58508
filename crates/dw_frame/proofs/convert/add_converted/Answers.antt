use Rattle.std.proofs.Common.{◌≡◌, inl, inr, ⊎_elim, Err}
use Rattle.std.proofs.lemmas.Result.{on_ok_weaker, IfErr-weaker}
use Rattle.dw_frame.proofs.ConvertLaws.{is_err}
use Rattle.dw_frame.proofs.convert.add_converted.Goals as goal

pub returns-in_err-cie-clause-ok : goal.returns-in_err-cie-clause-ok
returns-in_err-cie-clause-ok g c = rw (is_err _ _ c.from_residual.ensures) tt

pub returns-in_err-cie-clause-err : goal.returns-in_err-cie-clause-err
returns-in_err-cie-clause-err g c =
    let e : c.from_residual.result ≡ Err c.in_err-cie.field-0.0 = is_err _ _ c.from_residual.ensures in
    rw (e, ← c.cie.ensures) (⊎_elim (λ n. inl n) (λ h. inr (inl h)) c.in_err-cie.ensures.err)

pub returns-in_err-fde-clause-ok : goal.returns-in_err-fde-clause-ok
returns-in_err-fde-clause-ok g c = rw (is_err _ _ c.from_residual-in_err-fde.ensures) tt

pub returns-in_err-fde-clause-err : goal.returns-in_err-fde-clause-err
returns-in_err-fde-clause-err g c =
    let e : c.from_residual-in_err-fde.result ≡ Err c.in_err-fde.field-0.0 = is_err _ _ c.from_residual-in_err-fde.ensures in
    rw e (⊎_elim (λ n. inl n) (λ h. inr (inr h)) c.in_err-fde.ensures.err)

pub returns-clause-ok : goal.returns-clause-ok
returns-clause-ok g c =
    on_ok_weaker c.add_pair.result (λ a. record {
      pair = (c.in_ok-cie.cie, c.in_ok-fde.fde);
      cie = rw c.cie.ensures at c.in_ok-cie.ensures.ok;
      fde = c.in_ok-fde.ensures.ok;
      adds = a;
    }) c.add_pair.ensures.ok

pub returns-clause-err : goal.returns-clause-err
returns-clause-err g c = IfErr-weaker c.add_pair.result _ _ (λ e n. inl n) c.add_pair.ensures.err
