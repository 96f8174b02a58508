use Rattle.std.proofs.Common.{ℕ, refl, arith}
use Rattle.std.proofs.lemmas.Result.{err_from_is_err_and}
use Rattle.std.proofs.lemmas.Bool.{ne_eqb}
use Rattle.dw_base.specs.Leb128.{uleb_at}
use Rattle.dw_read.specs.Reasons.{number_read, uleb_read}
use Rattle.dw_read.proofs.Laws.{uleb_law}
use Rattle.dw_read.proofs.Chain.{took_of}
use Rattle.dw_read_frames.specs.Pointers.{pointer_read}
use Rattle.dw_read_frames.specs.Instructions.{Nop, SetLoc, AdvanceLoc, RememberState, RestoreState, NegateRaState, ArgsSize, place_row}
use Rattle.dw_read_frames.proofs.Steps.{number_took}
use Rattle.dw_read_frames.proofs.TableLaws.{no_row, none_ok, at_row, one_ok, one_err}
use Rattle.dw_read_frames.proofs.locations.read_location.Goals as goal

pub returns-in-DW_CFA_nop-clause-ok : goal.returns-in-DW_CFA_nop-clause-ok
unfolding place_row
returns-in-DW_CFA_nop-clause-ok g c = none_ok (place_row (g.R.Reader.reading c.args.input.now).is_big c.args.size c.args.encoding (g.R.Reader.reading c.args.input.now).place c.args.code.0) Nop _ (g.met.R.Reader.is_reading c.args.input.now) (at_row (place_row (g.R.Reader.reading c.args.input.now).is_big c.args.size c.args.encoding (g.R.Reader.reading c.args.input.now).place) c.args.code.0 0 _ refl (omega arith))

pub returns-in_err-read_pointer-in-DW_CFA_set_loc-clause-err : goal.returns-in_err-read_pointer-in-DW_CFA_set_loc-clause-err
unfolding place_row
returns-in_err-read_pointer-in-DW_CFA_set_loc-clause-err g c =
    let p = err_from_is_err_and c.from_residual.result c.from_residual.ensures.1 in
    rw (p.1, p.2) (one_err (place_row (g.R.Reader.reading c.args.input.now).is_big c.args.size c.args.encoding (g.R.Reader.reading c.args.input.now).place c.args.code.0) ℕ (pointer_read (g.R.Reader.reading c.args.input.now).is_big c.args.size c.args.encoding (g.R.Reader.reading c.args.input.now).place) SetLoc (at_row (place_row (g.R.Reader.reading c.args.input.now).is_big c.args.size c.args.encoding (g.R.Reader.reading c.args.input.now).place) c.args.code.0 1 _ refl (omega arith)) _ _ c.in_err-read_pointer-in-DW_CFA_set_loc.ensures.err)

pub returns-in_ok-read_pointer-in-DW_CFA_set_loc-clause-ok : goal.returns-in_ok-read_pointer-in-DW_CFA_set_loc-clause-ok
unfolding place_row
returns-in_ok-read_pointer-in-DW_CFA_set_loc-clause-ok g c = one_ok (place_row (g.R.Reader.reading c.args.input.now).is_big c.args.size c.args.encoding (g.R.Reader.reading c.args.input.now).place c.args.code.0) ℕ (pointer_read (g.R.Reader.reading c.args.input.now).is_big c.args.size c.args.encoding (g.R.Reader.reading c.args.input.now).place) SetLoc (at_row (place_row (g.R.Reader.reading c.args.input.now).is_big c.args.size c.args.encoding (g.R.Reader.reading c.args.input.now).place) c.args.code.0 1 _ refl (omega arith)) _ _ _ c.in_ok-read_pointer-in-DW_CFA_set_loc.ensures.ok

pub returns-in_err-read_u8-in-DW_CFA_advance_loc1-clause-err : goal.returns-in_err-read_u8-in-DW_CFA_advance_loc1-clause-err
unfolding place_row
returns-in_err-read_u8-in-DW_CFA_advance_loc1-clause-err g c =
    let p = err_from_is_err_and c.from_residual-in_err-read_u8-in-DW_CFA_advance_loc1.result c.from_residual-in_err-read_u8-in-DW_CFA_advance_loc1.ensures.1 in
    rw (p.1, p.2) (one_err (place_row (g.R.Reader.reading c.args.input.now).is_big c.args.size c.args.encoding (g.R.Reader.reading c.args.input.now).place c.args.code.0) ℕ (number_read (g.R.Reader.reading c.args.input.now).is_big 1) AdvanceLoc (at_row (place_row (g.R.Reader.reading c.args.input.now).is_big c.args.size c.args.encoding (g.R.Reader.reading c.args.input.now).place) c.args.code.0 2 _ refl (omega arith)) _ _ c.in_err-read_u8-in-DW_CFA_advance_loc1.ensures.err.reason)

pub returns-in_ok-read_u8-in-DW_CFA_advance_loc1-clause-ok : goal.returns-in_ok-read_u8-in-DW_CFA_advance_loc1-clause-ok
unfolding place_row
returns-in_ok-read_u8-in-DW_CFA_advance_loc1-clause-ok g c = one_ok (place_row (g.R.Reader.reading c.args.input.now).is_big c.args.size c.args.encoding (g.R.Reader.reading c.args.input.now).place c.args.code.0) ℕ (number_read (g.R.Reader.reading c.args.input.now).is_big 1) AdvanceLoc (at_row (place_row (g.R.Reader.reading c.args.input.now).is_big c.args.size c.args.encoding (g.R.Reader.reading c.args.input.now).place) c.args.code.0 2 _ refl (omega arith)) _ _ _ (number_took 1 _ _ _ c.in_ok-read_u8-in-DW_CFA_advance_loc1.ensures.ok)

pub returns-in_err-read_u16-in-DW_CFA_advance_loc2-clause-err : goal.returns-in_err-read_u16-in-DW_CFA_advance_loc2-clause-err
unfolding place_row
returns-in_err-read_u16-in-DW_CFA_advance_loc2-clause-err g c =
    let p = err_from_is_err_and c.from_residual-in_err-read_u16-in-DW_CFA_advance_loc2.result c.from_residual-in_err-read_u16-in-DW_CFA_advance_loc2.ensures.1 in
    rw (p.1, p.2) (one_err (place_row (g.R.Reader.reading c.args.input.now).is_big c.args.size c.args.encoding (g.R.Reader.reading c.args.input.now).place c.args.code.0) ℕ (number_read (g.R.Reader.reading c.args.input.now).is_big 2) AdvanceLoc (at_row (place_row (g.R.Reader.reading c.args.input.now).is_big c.args.size c.args.encoding (g.R.Reader.reading c.args.input.now).place) c.args.code.0 3 _ refl (omega arith)) _ _ c.in_err-read_u16-in-DW_CFA_advance_loc2.ensures.err.reason)

pub returns-in_ok-read_u16-in-DW_CFA_advance_loc2-clause-ok : goal.returns-in_ok-read_u16-in-DW_CFA_advance_loc2-clause-ok
unfolding place_row
returns-in_ok-read_u16-in-DW_CFA_advance_loc2-clause-ok g c = one_ok (place_row (g.R.Reader.reading c.args.input.now).is_big c.args.size c.args.encoding (g.R.Reader.reading c.args.input.now).place c.args.code.0) ℕ (number_read (g.R.Reader.reading c.args.input.now).is_big 2) AdvanceLoc (at_row (place_row (g.R.Reader.reading c.args.input.now).is_big c.args.size c.args.encoding (g.R.Reader.reading c.args.input.now).place) c.args.code.0 3 _ refl (omega arith)) _ _ _ (number_took 2 _ _ _ c.in_ok-read_u16-in-DW_CFA_advance_loc2.ensures.ok)

pub returns-in_err-read_u32-in-DW_CFA_advance_loc4-clause-err : goal.returns-in_err-read_u32-in-DW_CFA_advance_loc4-clause-err
unfolding place_row
returns-in_err-read_u32-in-DW_CFA_advance_loc4-clause-err g c =
    let p = err_from_is_err_and c.from_residual-in_err-read_u32-in-DW_CFA_advance_loc4.result c.from_residual-in_err-read_u32-in-DW_CFA_advance_loc4.ensures.1 in
    rw (p.1, p.2) (one_err (place_row (g.R.Reader.reading c.args.input.now).is_big c.args.size c.args.encoding (g.R.Reader.reading c.args.input.now).place c.args.code.0) ℕ (number_read (g.R.Reader.reading c.args.input.now).is_big 4) AdvanceLoc (at_row (place_row (g.R.Reader.reading c.args.input.now).is_big c.args.size c.args.encoding (g.R.Reader.reading c.args.input.now).place) c.args.code.0 4 _ refl (omega arith)) _ _ c.in_err-read_u32-in-DW_CFA_advance_loc4.ensures.err.reason)

pub returns-in_ok-read_u32-in-DW_CFA_advance_loc4-clause-ok : goal.returns-in_ok-read_u32-in-DW_CFA_advance_loc4-clause-ok
unfolding place_row
returns-in_ok-read_u32-in-DW_CFA_advance_loc4-clause-ok g c = one_ok (place_row (g.R.Reader.reading c.args.input.now).is_big c.args.size c.args.encoding (g.R.Reader.reading c.args.input.now).place c.args.code.0) ℕ (number_read (g.R.Reader.reading c.args.input.now).is_big 4) AdvanceLoc (at_row (place_row (g.R.Reader.reading c.args.input.now).is_big c.args.size c.args.encoding (g.R.Reader.reading c.args.input.now).place) c.args.code.0 4 _ refl (omega arith)) _ _ _ (number_took 4 _ _ _ c.in_ok-read_u32-in-DW_CFA_advance_loc4.ensures.ok)

pub returns-in-DW_CFA_remember_state-clause-ok : goal.returns-in-DW_CFA_remember_state-clause-ok
unfolding place_row
returns-in-DW_CFA_remember_state-clause-ok g c = none_ok (place_row (g.R.Reader.reading c.args.input.now).is_big c.args.size c.args.encoding (g.R.Reader.reading c.args.input.now).place c.args.code.0) RememberState _ (g.met.R.Reader.is_reading c.args.input.now) (at_row (place_row (g.R.Reader.reading c.args.input.now).is_big c.args.size c.args.encoding (g.R.Reader.reading c.args.input.now).place) c.args.code.0 10 _ refl (omega arith))

pub returns-in-DW_CFA_restore_state-clause-ok : goal.returns-in-DW_CFA_restore_state-clause-ok
unfolding place_row
returns-in-DW_CFA_restore_state-clause-ok g c = none_ok (place_row (g.R.Reader.reading c.args.input.now).is_big c.args.size c.args.encoding (g.R.Reader.reading c.args.input.now).place c.args.code.0) RestoreState _ (g.met.R.Reader.is_reading c.args.input.now) (at_row (place_row (g.R.Reader.reading c.args.input.now).is_big c.args.size c.args.encoding (g.R.Reader.reading c.args.input.now).place) c.args.code.0 11 _ refl (omega arith))

pub returns-in-DW_CFA_AARCH64_negate_ra_state-clause-ok : goal.returns-in-DW_CFA_AARCH64_negate_ra_state-clause-ok
unfolding place_row
returns-in-DW_CFA_AARCH64_negate_ra_state-clause-ok g c = none_ok (place_row (g.R.Reader.reading c.args.input.now).is_big c.args.size c.args.encoding (g.R.Reader.reading c.args.input.now).place c.args.code.0) NegateRaState _ (g.met.R.Reader.is_reading c.args.input.now) (at_row (place_row (g.R.Reader.reading c.args.input.now).is_big c.args.size c.args.encoding (g.R.Reader.reading c.args.input.now).place) c.args.code.0 45 _ refl (omega arith))

pub returns-in_err-read_uleb128-in-DW_CFA_GNU_args_size-clause-err : goal.returns-in_err-read_uleb128-in-DW_CFA_GNU_args_size-clause-err
unfolding place_row
returns-in_err-read_uleb128-in-DW_CFA_GNU_args_size-clause-err g c =
    let p = err_from_is_err_and c.from_residual-in_err-read_uleb128-in-DW_CFA_GNU_args_size.result c.from_residual-in_err-read_uleb128-in-DW_CFA_GNU_args_size.ensures.1 in
    rw (p.1, p.2) (one_err (place_row (g.R.Reader.reading c.args.input.now).is_big c.args.size c.args.encoding (g.R.Reader.reading c.args.input.now).place c.args.code.0) ℕ uleb_read ArgsSize (at_row (place_row (g.R.Reader.reading c.args.input.now).is_big c.args.size c.args.encoding (g.R.Reader.reading c.args.input.now).place) c.args.code.0 46 _ refl (omega arith)) _ _ c.in_err-read_uleb128-in-DW_CFA_GNU_args_size.ensures.err.reason)

pub returns-in_ok-read_uleb128-in-DW_CFA_GNU_args_size-clause-ok : goal.returns-in_ok-read_uleb128-in-DW_CFA_GNU_args_size-clause-ok
unfolding place_row
returns-in_ok-read_uleb128-in-DW_CFA_GNU_args_size-clause-ok g c = one_ok (place_row (g.R.Reader.reading c.args.input.now).is_big c.args.size c.args.encoding (g.R.Reader.reading c.args.input.now).place c.args.code.0) ℕ uleb_read ArgsSize (at_row (place_row (g.R.Reader.reading c.args.input.now).is_big c.args.size c.args.encoding (g.R.Reader.reading c.args.input.now).place) c.args.code.0 46 _ refl (omega arith)) _ _ _ (took_of ℕ uleb_at uleb_read _ _ _ uleb_law c.in_ok-read_uleb128-in-DW_CFA_GNU_args_size.ensures.ok)

pub returns-in_default-clause-ok : goal.returns-in_default-clause-ok
unfolding place_row
returns-in_default-clause-ok g c = no_row (place_row (g.R.Reader.reading c.args.input.now).is_big c.args.size c.args.encoding (g.R.Reader.reading c.args.input.now).place c.args.code.0) _ (g.met.R.Reader.is_reading c.args.input.now) (rw (ne_eqb c.args.code.0 0 (λ h. omega arith), ne_eqb c.args.code.0 1 (λ h. omega arith), ne_eqb c.args.code.0 2 (λ h. omega arith), ne_eqb c.args.code.0 3 (λ h. omega arith), ne_eqb c.args.code.0 4 (λ h. omega arith), ne_eqb c.args.code.0 10 (λ h. omega arith), ne_eqb c.args.code.0 11 (λ h. omega arith), ne_eqb c.args.code.0 45 (λ h. omega arith), ne_eqb c.args.code.0 46 (λ h. omega arith)) refl)
