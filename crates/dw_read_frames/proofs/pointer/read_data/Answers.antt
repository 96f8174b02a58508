use Rattle.std.proofs.Common.{◌∙◌, ap, ℕ, refl, arith, rules}
use Rattle.std.proofs.lemmas.Int.{to_z-of_z}
use mir.Val.{SFits}
use mir.Syntax.{w64}
use Rattle.std.proofs.lemmas.Result.{err_from_is_err_and}
use Rattle.std.proofs.lemmas.Bool.{ne_eqb}
use Rattle.dw_base.specs.Leb128.{uleb_at}
use Rattle.dw_base.specs.Numbers.{number_at}
use Rattle.dw_read.specs.Reasons.{number_read, uleb_read, address_at, address_read}
use Rattle.dw_read.proofs.Laws.{number_law, uleb_law, address_law}
use Rattle.dw_read.proofs.Chain.{took_of}
use Rattle.dw_read_frames.specs.Pointers.{in_bits, extended_read, signed_read, format_row}
use Rattle.dw_read_frames.proofs.PointerLaws.{unknown_format, data_err, data_ok, row_at, extended_took, extended_not, signed_took, signed_not}
use Rattle.dw_read_frames.proofs.pointer.read_data.Goals as goal

pub returns-in_err-read_address-in-DW_EH_PE_absptr-clause-err : goal.returns-in_err-read_address-in-DW_EH_PE_absptr-clause-err
unfolding format_row
returns-in_err-read_address-in-DW_EH_PE_absptr-clause-err g c =
    let p = err_from_is_err_and c.from_residual.result c.from_residual.ensures.1 in
    rw (p.1, p.2) (data_err (g.R.Reader.reading c.args.input.now).is_big c.args.size c.args.encoding c.format.result.0 c.format.ensures (address_read (g.R.Reader.reading c.args.input.now).is_big c.args.size) (row_at (g.R.Reader.reading c.args.input.now).is_big c.args.size c.format.result.0 0 (address_read (g.R.Reader.reading c.args.input.now).is_big c.args.size) refl (omega arith)) _ _ c.in_err-read_address-in-DW_EH_PE_absptr.ensures.err.reason)

pub returns-in_ok-read_address-in-DW_EH_PE_absptr-clause-ok : goal.returns-in_ok-read_address-in-DW_EH_PE_absptr-clause-ok
unfolding format_row
returns-in_ok-read_address-in-DW_EH_PE_absptr-clause-ok g c =
    data_ok (g.R.Reader.reading c.args.input.now).is_big c.args.size c.args.encoding c.format.result.0 c.format.ensures (address_read (g.R.Reader.reading c.args.input.now).is_big c.args.size) (row_at (g.R.Reader.reading c.args.input.now).is_big c.args.size c.format.result.0 0 (address_read (g.R.Reader.reading c.args.input.now).is_big c.args.size) refl (omega arith)) _ _ _ (took_of ℕ (address_at (g.R.Reader.reading c.args.input.now).is_big c.args.size) (address_read (g.R.Reader.reading c.args.input.now).is_big c.args.size) _ _ _ (address_law (g.R.Reader.reading c.args.input.now).is_big c.args.size) c.in_ok-read_address-in-DW_EH_PE_absptr.ensures.ok)

pub returns-in_err-read_uleb128-in-DW_EH_PE_uleb128-clause-err : goal.returns-in_err-read_uleb128-in-DW_EH_PE_uleb128-clause-err
unfolding format_row
returns-in_err-read_uleb128-in-DW_EH_PE_uleb128-clause-err g c =
    let p = err_from_is_err_and c.from_residual-in_err-read_uleb128-in-DW_EH_PE_uleb128.result c.from_residual-in_err-read_uleb128-in-DW_EH_PE_uleb128.ensures.1 in
    rw (p.1, p.2) (data_err (g.R.Reader.reading c.args.input.now).is_big c.args.size c.args.encoding c.format.result.0 c.format.ensures (uleb_read) (row_at (g.R.Reader.reading c.args.input.now).is_big c.args.size c.format.result.0 1 (uleb_read) refl (omega arith)) _ _ c.in_err-read_uleb128-in-DW_EH_PE_uleb128.ensures.err.reason)

pub returns-in_ok-read_uleb128-in-DW_EH_PE_uleb128-clause-ok : goal.returns-in_ok-read_uleb128-in-DW_EH_PE_uleb128-clause-ok
unfolding format_row
returns-in_ok-read_uleb128-in-DW_EH_PE_uleb128-clause-ok g c =
    data_ok (g.R.Reader.reading c.args.input.now).is_big c.args.size c.args.encoding c.format.result.0 c.format.ensures (uleb_read) (row_at (g.R.Reader.reading c.args.input.now).is_big c.args.size c.format.result.0 1 (uleb_read) refl (omega arith)) _ _ _ (took_of ℕ uleb_at uleb_read _ _ _ uleb_law c.in_ok-read_uleb128-in-DW_EH_PE_uleb128.ensures.ok)

pub returns-in_err-read_u16-in-DW_EH_PE_udata2-clause-err : goal.returns-in_err-read_u16-in-DW_EH_PE_udata2-clause-err
unfolding format_row
returns-in_err-read_u16-in-DW_EH_PE_udata2-clause-err g c =
    let p = err_from_is_err_and c.from_residual-in_err-read_u16-in-DW_EH_PE_udata2.result c.from_residual-in_err-read_u16-in-DW_EH_PE_udata2.ensures.1 in
    rw (p.1, p.2) (data_err (g.R.Reader.reading c.args.input.now).is_big c.args.size c.args.encoding c.format.result.0 c.format.ensures (number_read (g.R.Reader.reading c.args.input.now).is_big 2) (row_at (g.R.Reader.reading c.args.input.now).is_big c.args.size c.format.result.0 2 (number_read (g.R.Reader.reading c.args.input.now).is_big 2) refl (omega arith)) _ _ c.in_err-read_u16-in-DW_EH_PE_udata2.ensures.err.reason)

pub returns-in_ok-read_u16-in-DW_EH_PE_udata2-clause-ok : goal.returns-in_ok-read_u16-in-DW_EH_PE_udata2-clause-ok
unfolding format_row
returns-in_ok-read_u16-in-DW_EH_PE_udata2-clause-ok g c =
    data_ok (g.R.Reader.reading c.args.input.now).is_big c.args.size c.args.encoding c.format.result.0 c.format.ensures (number_read (g.R.Reader.reading c.args.input.now).is_big 2) (row_at (g.R.Reader.reading c.args.input.now).is_big c.args.size c.format.result.0 2 (number_read (g.R.Reader.reading c.args.input.now).is_big 2) refl (omega arith)) _ _ _ (took_of ℕ (number_at (g.R.Reader.reading c.args.input.now).is_big 2) (number_read (g.R.Reader.reading c.args.input.now).is_big 2) _ _ _ (number_law (g.R.Reader.reading c.args.input.now).is_big 2) c.in_ok-read_u16-in-DW_EH_PE_udata2.ensures.ok)

pub returns-in_err-read_u32-in-DW_EH_PE_udata4-clause-err : goal.returns-in_err-read_u32-in-DW_EH_PE_udata4-clause-err
unfolding format_row
returns-in_err-read_u32-in-DW_EH_PE_udata4-clause-err g c =
    let p = err_from_is_err_and c.from_residual-in_err-read_u32-in-DW_EH_PE_udata4.result c.from_residual-in_err-read_u32-in-DW_EH_PE_udata4.ensures.1 in
    rw (p.1, p.2) (data_err (g.R.Reader.reading c.args.input.now).is_big c.args.size c.args.encoding c.format.result.0 c.format.ensures (number_read (g.R.Reader.reading c.args.input.now).is_big 4) (row_at (g.R.Reader.reading c.args.input.now).is_big c.args.size c.format.result.0 3 (number_read (g.R.Reader.reading c.args.input.now).is_big 4) refl (omega arith)) _ _ c.in_err-read_u32-in-DW_EH_PE_udata4.ensures.err.reason)

pub returns-in_ok-read_u32-in-DW_EH_PE_udata4-clause-ok : goal.returns-in_ok-read_u32-in-DW_EH_PE_udata4-clause-ok
unfolding format_row
returns-in_ok-read_u32-in-DW_EH_PE_udata4-clause-ok g c =
    data_ok (g.R.Reader.reading c.args.input.now).is_big c.args.size c.args.encoding c.format.result.0 c.format.ensures (number_read (g.R.Reader.reading c.args.input.now).is_big 4) (row_at (g.R.Reader.reading c.args.input.now).is_big c.args.size c.format.result.0 3 (number_read (g.R.Reader.reading c.args.input.now).is_big 4) refl (omega arith)) _ _ _ (took_of ℕ (number_at (g.R.Reader.reading c.args.input.now).is_big 4) (number_read (g.R.Reader.reading c.args.input.now).is_big 4) _ _ _ (number_law (g.R.Reader.reading c.args.input.now).is_big 4) c.in_ok-read_u32-in-DW_EH_PE_udata4.ensures.ok)

pub returns-in_err-read_u64-in-DW_EH_PE_udata8-clause-err : goal.returns-in_err-read_u64-in-DW_EH_PE_udata8-clause-err
unfolding format_row
returns-in_err-read_u64-in-DW_EH_PE_udata8-clause-err g c =
    let p = err_from_is_err_and c.from_residual-in_err-read_u64-in-DW_EH_PE_udata8.result c.from_residual-in_err-read_u64-in-DW_EH_PE_udata8.ensures.1 in
    rw (p.1, p.2) (data_err (g.R.Reader.reading c.args.input.now).is_big c.args.size c.args.encoding c.format.result.0 c.format.ensures (number_read (g.R.Reader.reading c.args.input.now).is_big 8) (row_at (g.R.Reader.reading c.args.input.now).is_big c.args.size c.format.result.0 4 (number_read (g.R.Reader.reading c.args.input.now).is_big 8) refl (omega arith)) _ _ c.in_err-read_u64-in-DW_EH_PE_udata8.ensures.err.reason)

pub returns-in_ok-read_u64-in-DW_EH_PE_udata8-clause-ok : goal.returns-in_ok-read_u64-in-DW_EH_PE_udata8-clause-ok
unfolding format_row
returns-in_ok-read_u64-in-DW_EH_PE_udata8-clause-ok g c =
    data_ok (g.R.Reader.reading c.args.input.now).is_big c.args.size c.args.encoding c.format.result.0 c.format.ensures (number_read (g.R.Reader.reading c.args.input.now).is_big 8) (row_at (g.R.Reader.reading c.args.input.now).is_big c.args.size c.format.result.0 4 (number_read (g.R.Reader.reading c.args.input.now).is_big 8) refl (omega arith)) _ _ _ (took_of ℕ (number_at (g.R.Reader.reading c.args.input.now).is_big 8) (number_read (g.R.Reader.reading c.args.input.now).is_big 8) _ _ _ (number_law (g.R.Reader.reading c.args.input.now).is_big 8) c.in_ok-read_u64-in-DW_EH_PE_udata8.ensures.ok)

pub returns-in_err-read_sleb128-in-DW_EH_PE_sleb128-clause-err : goal.returns-in_err-read_sleb128-in-DW_EH_PE_sleb128-clause-err
unfolding format_row
returns-in_err-read_sleb128-in-DW_EH_PE_sleb128-clause-err g c =
    let p = err_from_is_err_and c.from_residual-in_err-read_sleb128-in-DW_EH_PE_sleb128.result c.from_residual-in_err-read_sleb128-in-DW_EH_PE_sleb128.ensures.1 in
    rw (p.1, p.2) (data_err (g.R.Reader.reading c.args.input.now).is_big c.args.size c.args.encoding c.format.result.0 c.format.ensures (signed_read) (row_at (g.R.Reader.reading c.args.input.now).is_big c.args.size c.format.result.0 9 (signed_read) refl (omega arith)) _ _ (signed_not _ _ c.in_err-read_sleb128-in-DW_EH_PE_sleb128.ensures.err.reason))

pub returns-in_ok-read_sleb128-in-DW_EH_PE_sleb128-clause-ok : goal.returns-in_ok-read_sleb128-in-DW_EH_PE_sleb128-clause-ok
unfolding format_row
returns-in_ok-read_sleb128-in-DW_EH_PE_sleb128-clause-ok g c =
    let fits : SFits w64 c.in_ok-read_sleb128-in-DW_EH_PE_sleb128.field-0 = search rules in
    data_ok (g.R.Reader.reading c.args.input.now).is_big c.args.size c.args.encoding c.format.result.0 c.format.ensures (signed_read) (row_at (g.R.Reader.reading c.args.input.now).is_big c.args.size c.format.result.0 9 (signed_read) refl (omega arith)) _ _ _ (signed_took c.in_ok-read_sleb128-in-DW_EH_PE_sleb128.field-0 _ _ _ (c.bits_of.ensures ∙ ap in_bits (to_z-of_z w64 c.in_ok-read_sleb128-in-DW_EH_PE_sleb128.field-0 fits)) c.in_ok-read_sleb128-in-DW_EH_PE_sleb128.ensures.ok)

pub returns-in_err-read_u16-in-DW_EH_PE_sdata2-clause-err : goal.returns-in_err-read_u16-in-DW_EH_PE_sdata2-clause-err
unfolding format_row
returns-in_err-read_u16-in-DW_EH_PE_sdata2-clause-err g c =
    let p = err_from_is_err_and c.from_residual-in_err-read_u16-in-DW_EH_PE_sdata2.result c.from_residual-in_err-read_u16-in-DW_EH_PE_sdata2.ensures.1 in
    rw (p.1, p.2) (data_err (g.R.Reader.reading c.args.input.now).is_big c.args.size c.args.encoding c.format.result.0 c.format.ensures (extended_read (g.R.Reader.reading c.args.input.now).is_big 2) (row_at (g.R.Reader.reading c.args.input.now).is_big c.args.size c.format.result.0 10 (extended_read (g.R.Reader.reading c.args.input.now).is_big 2) refl (omega arith)) _ _ (extended_not _ 2 _ _ c.in_err-read_u16-in-DW_EH_PE_sdata2.ensures.err.reason))

pub returns-in_ok-read_u16-in-DW_EH_PE_sdata2-clause-ok : goal.returns-in_ok-read_u16-in-DW_EH_PE_sdata2-clause-ok
unfolding format_row
returns-in_ok-read_u16-in-DW_EH_PE_sdata2-clause-ok g c =
    data_ok (g.R.Reader.reading c.args.input.now).is_big c.args.size c.args.encoding c.format.result.0 c.format.ensures (extended_read (g.R.Reader.reading c.args.input.now).is_big 2) (row_at (g.R.Reader.reading c.args.input.now).is_big c.args.size c.format.result.0 10 (extended_read (g.R.Reader.reading c.args.input.now).is_big 2) refl (omega arith)) _ _ _ (extended_took 2 _ _ _ _ c.extended_16.ensures c.in_ok-read_u16-in-DW_EH_PE_sdata2.ensures.ok)

pub returns-in_err-read_u32-in-DW_EH_PE_sdata4-clause-err : goal.returns-in_err-read_u32-in-DW_EH_PE_sdata4-clause-err
unfolding format_row
returns-in_err-read_u32-in-DW_EH_PE_sdata4-clause-err g c =
    let p = err_from_is_err_and c.from_residual-in_err-read_u32-in-DW_EH_PE_sdata4.result c.from_residual-in_err-read_u32-in-DW_EH_PE_sdata4.ensures.1 in
    rw (p.1, p.2) (data_err (g.R.Reader.reading c.args.input.now).is_big c.args.size c.args.encoding c.format.result.0 c.format.ensures (extended_read (g.R.Reader.reading c.args.input.now).is_big 4) (row_at (g.R.Reader.reading c.args.input.now).is_big c.args.size c.format.result.0 11 (extended_read (g.R.Reader.reading c.args.input.now).is_big 4) refl (omega arith)) _ _ (extended_not _ 4 _ _ c.in_err-read_u32-in-DW_EH_PE_sdata4.ensures.err.reason))

pub returns-in_ok-read_u32-in-DW_EH_PE_sdata4-clause-ok : goal.returns-in_ok-read_u32-in-DW_EH_PE_sdata4-clause-ok
unfolding format_row
returns-in_ok-read_u32-in-DW_EH_PE_sdata4-clause-ok g c =
    data_ok (g.R.Reader.reading c.args.input.now).is_big c.args.size c.args.encoding c.format.result.0 c.format.ensures (extended_read (g.R.Reader.reading c.args.input.now).is_big 4) (row_at (g.R.Reader.reading c.args.input.now).is_big c.args.size c.format.result.0 11 (extended_read (g.R.Reader.reading c.args.input.now).is_big 4) refl (omega arith)) _ _ _ (extended_took 4 _ _ _ _ c.extended_32.ensures c.in_ok-read_u32-in-DW_EH_PE_sdata4.ensures.ok)

pub returns-in_err-read_u64-in-DW_EH_PE_sdata8-clause-err : goal.returns-in_err-read_u64-in-DW_EH_PE_sdata8-clause-err
unfolding format_row
returns-in_err-read_u64-in-DW_EH_PE_sdata8-clause-err g c =
    let p = err_from_is_err_and c.from_residual-in_err-read_u64-in-DW_EH_PE_sdata8.result c.from_residual-in_err-read_u64-in-DW_EH_PE_sdata8.ensures.1 in
    rw (p.1, p.2) (data_err (g.R.Reader.reading c.args.input.now).is_big c.args.size c.args.encoding c.format.result.0 c.format.ensures (number_read (g.R.Reader.reading c.args.input.now).is_big 8) (row_at (g.R.Reader.reading c.args.input.now).is_big c.args.size c.format.result.0 12 (number_read (g.R.Reader.reading c.args.input.now).is_big 8) refl (omega arith)) _ _ c.in_err-read_u64-in-DW_EH_PE_sdata8.ensures.err.reason)

pub returns-in_ok-read_u64-in-DW_EH_PE_sdata8-clause-ok : goal.returns-in_ok-read_u64-in-DW_EH_PE_sdata8-clause-ok
unfolding format_row
returns-in_ok-read_u64-in-DW_EH_PE_sdata8-clause-ok g c =
    data_ok (g.R.Reader.reading c.args.input.now).is_big c.args.size c.args.encoding c.format.result.0 c.format.ensures (number_read (g.R.Reader.reading c.args.input.now).is_big 8) (row_at (g.R.Reader.reading c.args.input.now).is_big c.args.size c.format.result.0 12 (number_read (g.R.Reader.reading c.args.input.now).is_big 8) refl (omega arith)) _ _ _ (took_of ℕ (number_at (g.R.Reader.reading c.args.input.now).is_big 8) (number_read (g.R.Reader.reading c.args.input.now).is_big 8) _ _ _ (number_law (g.R.Reader.reading c.args.input.now).is_big 8) c.in_ok-read_u64-in-DW_EH_PE_sdata8.ensures.ok)

pub returns-in_default-clause-err : goal.returns-in_default-clause-err
unfolding format_row
returns-in_default-clause-err g c = unknown_format (g.R.Reader.reading c.args.input.now).is_big c.args.size c.args.encoding c.format.result.0 c.format.ensures _ (rw (ne_eqb c.format.result.0 0 (λ h. omega arith), ne_eqb c.format.result.0 1 (λ h. omega arith), ne_eqb c.format.result.0 2 (λ h. omega arith), ne_eqb c.format.result.0 3 (λ h. omega arith), ne_eqb c.format.result.0 4 (λ h. omega arith), ne_eqb c.format.result.0 9 (λ h. omega arith), ne_eqb c.format.result.0 10 (λ h. omega arith), ne_eqb c.format.result.0 11 (λ h. omega arith), ne_eqb c.format.result.0 12 (λ h. omega arith)) refl)
