use Rattle.std.proofs.Common.{ap, ℕ, ◌+◌, ◌%◌, ◌^◌, arith}
use Rattle.std.proofs.lemmas.Result.{err_from_is_err_and}
use Rattle.dw_read_frames.proofs.PointerLaws.{pointer_no_data, pointer_took, pointer_lost, led_from_zero, led_from_place, led_to_none}
use Rattle.dw_read_frames.proofs.pointer.read_pointer.Goals as goal

pub returns-in_err-number-clause-err : goal.returns-in_err-number-clause-err
returns-in_err-number-clause-err g c =
    let p = err_from_is_err_and c.from_residual.result c.from_residual.ensures.1 in
    rw (p.1, p.2) (pointer_no_data c.args.size c.args.encoding _ _ _ _ c.in_err-number.ensures.err)

pub returns-in-DW_EH_PE_absptr-clause-ok : goal.returns-in-DW_EH_PE_absptr-clause-ok
returns-in-DW_EH_PE_absptr-clause-ok g c = pointer_took c.args.size c.args.encoding c.in_ok-number.number c.application.result.0 c.application.ensures _ _ c.in_ok-number.ensures.ok _ (led_from_zero c.application.result.0 (g.R.Reader.reading c.args.input.now).place c.in_ok-number.number (omega arith))

pub returns-in-DW_EH_PE_pcrel-clause-ok : goal.returns-in-DW_EH_PE_pcrel-clause-ok
returns-in-DW_EH_PE_pcrel-clause-ok g c = pointer_took c.args.size c.args.encoding c.in_ok-number.number c.application.result.0 c.application.ensures _ _ c.in_ok-number.ensures.ok _ (led_from_place c.application.result.0 (g.R.Reader.reading c.args.input.now).place c.in_ok-number.number _ (omega arith) (ap (λ (k : ℕ). (c.in_ok-number.number + k) % 2 ^ 64) c.place-place.ensures))

pub returns-in_default-clause-err : goal.returns-in_default-clause-err
returns-in_default-clause-err g c = pointer_lost c.args.size c.args.encoding c.in_ok-number.number c.application.result.0 c.application.ensures _ _ c.in_ok-number.ensures.ok (led_to_none c.application.result.0 (g.R.Reader.reading c.args.input.now).place c.in_ok-number.number (λ h. omega (arith, h)) (λ h. omega (arith, h)))
