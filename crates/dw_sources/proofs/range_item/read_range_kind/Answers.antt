use Rattle.std.proofs.Common.{ℕ, refl, arith}
use Rattle.std.proofs.lemmas.Result.{err_from_is_err_and}
use Rattle.std.proofs.lemmas.Bool.{ne_eqb}
use Rattle.dw_base.specs.Leb128.{uleb_at}
use Rattle.dw_read.specs.Reasons.{uleb_read, address_read}
use Rattle.dw_read.proofs.Laws.{uleb_law}
use Rattle.dw_read.proofs.Chain.{took_of, went}
use Rattle.dw_sources.specs.RawLists.{BaseAddress, BaseAddressx, StartxEndx, StartxLength, OffsetPair, StartEnd, StartLength, range_row}
use Rattle.dw_sources.proofs.ListLaws.{address_took, address_after, address_not_after, no_kind, at_kind, closed, one_range, one_range_err, two_range, two_range_first, two_range_second}
use Rattle.dw_sources.proofs.range_item.read_range_kind.Goals as goal

pub returns-in-DW_RLE_end_of_list-clause-ok : goal.returns-in-DW_RLE_end_of_list-clause-ok
unfolding range_row
returns-in-DW_RLE_end_of_list-clause-ok g c =
    closed c.args.size c.args.kind.0 _ (g.met.R.Reader.is_reading c.args.input.now) (at_kind (g.R.Reader.reading c.args.input.now).is_big c.args.size c.args.kind.0 0 _ refl (omega arith))

pub returns-in_err-read_uleb128-in-DW_RLE_base_addressx-clause-err : goal.returns-in_err-read_uleb128-in-DW_RLE_base_addressx-clause-err
unfolding range_row
returns-in_err-read_uleb128-in-DW_RLE_base_addressx-clause-err g c =
    let p = err_from_is_err_and c.from_residual.result c.from_residual.ensures.1 in
    rw (p.1, p.2) (one_range_err (g.R.Reader.reading c.args.input.now).is_big c.args.size c.args.kind.0 uleb_read BaseAddressx (at_kind (g.R.Reader.reading c.args.input.now).is_big c.args.size c.args.kind.0 1 _ refl (omega arith)) _ _ c.in_err-read_uleb128-in-DW_RLE_base_addressx.ensures.err.reason)

pub returns-in_ok-read_uleb128-in-DW_RLE_base_addressx-clause-ok : goal.returns-in_ok-read_uleb128-in-DW_RLE_base_addressx-clause-ok
unfolding range_row
returns-in_ok-read_uleb128-in-DW_RLE_base_addressx-clause-ok g c =
    one_range (g.R.Reader.reading c.args.input.now).is_big c.args.size c.args.kind.0 uleb_read BaseAddressx (at_kind (g.R.Reader.reading c.args.input.now).is_big c.args.size c.args.kind.0 1 _ refl (omega arith)) _ _ _ (took_of ℕ uleb_at uleb_read _ _ _ uleb_law c.in_ok-read_uleb128-in-DW_RLE_base_addressx.ensures.ok)

pub returns-in_err-read_uleb128-in-DW_RLE_startx_endx-clause-err : goal.returns-in_err-read_uleb128-in-DW_RLE_startx_endx-clause-err
unfolding range_row
returns-in_err-read_uleb128-in-DW_RLE_startx_endx-clause-err g c =
    let p = err_from_is_err_and c.from_residual-in_err-read_uleb128-in-DW_RLE_startx_endx.result c.from_residual-in_err-read_uleb128-in-DW_RLE_startx_endx.ensures.1 in
    rw (p.1, p.2) (two_range_first (g.R.Reader.reading c.args.input.now).is_big c.args.size c.args.kind.0 uleb_read uleb_read StartxEndx (at_kind (g.R.Reader.reading c.args.input.now).is_big c.args.size c.args.kind.0 2 _ refl (omega arith)) _ _ c.in_err-read_uleb128-in-DW_RLE_startx_endx.ensures.err.reason)

pub returns-in_err-read_uleb128-in-DW_RLE_startx_endx-2-clause-err : goal.returns-in_err-read_uleb128-in-DW_RLE_startx_endx-2-clause-err
unfolding range_row
returns-in_err-read_uleb128-in-DW_RLE_startx_endx-2-clause-err g c =
    let p = err_from_is_err_and c.from_residual-in_err-read_uleb128-in-DW_RLE_startx_endx-2.result c.from_residual-in_err-read_uleb128-in-DW_RLE_startx_endx-2.ensures.1 in
    rw (p.1, p.2) (two_range_second (g.R.Reader.reading c.args.input.now).is_big c.args.size c.args.kind.0 uleb_read uleb_read StartxEndx (at_kind (g.R.Reader.reading c.args.input.now).is_big c.args.size c.args.kind.0 2 _ refl (omega arith)) _ _ _ _ (took_of ℕ uleb_at uleb_read _ _ _ uleb_law c.in_ok-read_uleb128-in-DW_RLE_startx_endx.ensures.ok) c.in_err-read_uleb128-in-DW_RLE_startx_endx-2.ensures.err.reason)

pub returns-in_ok-read_uleb128-in-DW_RLE_startx_endx-2-clause-ok : goal.returns-in_ok-read_uleb128-in-DW_RLE_startx_endx-2-clause-ok
unfolding range_row
returns-in_ok-read_uleb128-in-DW_RLE_startx_endx-2-clause-ok g c =
    two_range (g.R.Reader.reading c.args.input.now).is_big c.args.size c.args.kind.0 uleb_read uleb_read StartxEndx (at_kind (g.R.Reader.reading c.args.input.now).is_big c.args.size c.args.kind.0 2 _ refl (omega arith)) _ _ _ _ _ (took_of ℕ uleb_at uleb_read _ _ _ uleb_law c.in_ok-read_uleb128-in-DW_RLE_startx_endx.ensures.ok) (took_of ℕ uleb_at uleb_read _ _ _ uleb_law c.in_ok-read_uleb128-in-DW_RLE_startx_endx-2.ensures.ok)

pub returns-in_err-read_uleb128-in-DW_RLE_startx_length-clause-err : goal.returns-in_err-read_uleb128-in-DW_RLE_startx_length-clause-err
unfolding range_row
returns-in_err-read_uleb128-in-DW_RLE_startx_length-clause-err g c =
    let p = err_from_is_err_and c.from_residual-in_err-read_uleb128-in-DW_RLE_startx_length.result c.from_residual-in_err-read_uleb128-in-DW_RLE_startx_length.ensures.1 in
    rw (p.1, p.2) (two_range_first (g.R.Reader.reading c.args.input.now).is_big c.args.size c.args.kind.0 uleb_read uleb_read StartxLength (at_kind (g.R.Reader.reading c.args.input.now).is_big c.args.size c.args.kind.0 3 _ refl (omega arith)) _ _ c.in_err-read_uleb128-in-DW_RLE_startx_length.ensures.err.reason)

pub returns-in_err-read_uleb128-in-DW_RLE_startx_length-2-clause-err : goal.returns-in_err-read_uleb128-in-DW_RLE_startx_length-2-clause-err
unfolding range_row
returns-in_err-read_uleb128-in-DW_RLE_startx_length-2-clause-err g c =
    let p = err_from_is_err_and c.from_residual-in_err-read_uleb128-in-DW_RLE_startx_length-2.result c.from_residual-in_err-read_uleb128-in-DW_RLE_startx_length-2.ensures.1 in
    rw (p.1, p.2) (two_range_second (g.R.Reader.reading c.args.input.now).is_big c.args.size c.args.kind.0 uleb_read uleb_read StartxLength (at_kind (g.R.Reader.reading c.args.input.now).is_big c.args.size c.args.kind.0 3 _ refl (omega arith)) _ _ _ _ (took_of ℕ uleb_at uleb_read _ _ _ uleb_law c.in_ok-read_uleb128-in-DW_RLE_startx_length.ensures.ok) c.in_err-read_uleb128-in-DW_RLE_startx_length-2.ensures.err.reason)

pub returns-in_ok-read_uleb128-in-DW_RLE_startx_length-2-clause-ok : goal.returns-in_ok-read_uleb128-in-DW_RLE_startx_length-2-clause-ok
unfolding range_row
returns-in_ok-read_uleb128-in-DW_RLE_startx_length-2-clause-ok g c =
    two_range (g.R.Reader.reading c.args.input.now).is_big c.args.size c.args.kind.0 uleb_read uleb_read StartxLength (at_kind (g.R.Reader.reading c.args.input.now).is_big c.args.size c.args.kind.0 3 _ refl (omega arith)) _ _ _ _ _ (took_of ℕ uleb_at uleb_read _ _ _ uleb_law c.in_ok-read_uleb128-in-DW_RLE_startx_length.ensures.ok) (took_of ℕ uleb_at uleb_read _ _ _ uleb_law c.in_ok-read_uleb128-in-DW_RLE_startx_length-2.ensures.ok)

pub returns-in_err-read_uleb128-in-DW_RLE_offset_pair-clause-err : goal.returns-in_err-read_uleb128-in-DW_RLE_offset_pair-clause-err
unfolding range_row
returns-in_err-read_uleb128-in-DW_RLE_offset_pair-clause-err g c =
    let p = err_from_is_err_and c.from_residual-in_err-read_uleb128-in-DW_RLE_offset_pair.result c.from_residual-in_err-read_uleb128-in-DW_RLE_offset_pair.ensures.1 in
    rw (p.1, p.2) (two_range_first (g.R.Reader.reading c.args.input.now).is_big c.args.size c.args.kind.0 uleb_read uleb_read OffsetPair (at_kind (g.R.Reader.reading c.args.input.now).is_big c.args.size c.args.kind.0 4 _ refl (omega arith)) _ _ c.in_err-read_uleb128-in-DW_RLE_offset_pair.ensures.err.reason)

pub returns-in_err-read_uleb128-in-DW_RLE_offset_pair-2-clause-err : goal.returns-in_err-read_uleb128-in-DW_RLE_offset_pair-2-clause-err
unfolding range_row
returns-in_err-read_uleb128-in-DW_RLE_offset_pair-2-clause-err g c =
    let p = err_from_is_err_and c.from_residual-in_err-read_uleb128-in-DW_RLE_offset_pair-2.result c.from_residual-in_err-read_uleb128-in-DW_RLE_offset_pair-2.ensures.1 in
    rw (p.1, p.2) (two_range_second (g.R.Reader.reading c.args.input.now).is_big c.args.size c.args.kind.0 uleb_read uleb_read OffsetPair (at_kind (g.R.Reader.reading c.args.input.now).is_big c.args.size c.args.kind.0 4 _ refl (omega arith)) _ _ _ _ (took_of ℕ uleb_at uleb_read _ _ _ uleb_law c.in_ok-read_uleb128-in-DW_RLE_offset_pair.ensures.ok) c.in_err-read_uleb128-in-DW_RLE_offset_pair-2.ensures.err.reason)

pub returns-in_ok-read_uleb128-in-DW_RLE_offset_pair-2-clause-ok : goal.returns-in_ok-read_uleb128-in-DW_RLE_offset_pair-2-clause-ok
unfolding range_row
returns-in_ok-read_uleb128-in-DW_RLE_offset_pair-2-clause-ok g c =
    two_range (g.R.Reader.reading c.args.input.now).is_big c.args.size c.args.kind.0 uleb_read uleb_read OffsetPair (at_kind (g.R.Reader.reading c.args.input.now).is_big c.args.size c.args.kind.0 4 _ refl (omega arith)) _ _ _ _ _ (took_of ℕ uleb_at uleb_read _ _ _ uleb_law c.in_ok-read_uleb128-in-DW_RLE_offset_pair.ensures.ok) (took_of ℕ uleb_at uleb_read _ _ _ uleb_law c.in_ok-read_uleb128-in-DW_RLE_offset_pair-2.ensures.ok)

pub returns-in_err-read_address-in-DW_RLE_base_address-clause-err : goal.returns-in_err-read_address-in-DW_RLE_base_address-clause-err
unfolding range_row
returns-in_err-read_address-in-DW_RLE_base_address-clause-err g c =
    let p = err_from_is_err_and c.from_residual-in_err-read_address-in-DW_RLE_base_address.result c.from_residual-in_err-read_address-in-DW_RLE_base_address.ensures.1 in
    rw (p.1, p.2) (one_range_err (g.R.Reader.reading c.args.input.now).is_big c.args.size c.args.kind.0 (address_read (g.R.Reader.reading c.args.input.now).is_big c.args.size) BaseAddress (at_kind (g.R.Reader.reading c.args.input.now).is_big c.args.size c.args.kind.0 5 _ refl (omega arith)) _ _ c.in_err-read_address-in-DW_RLE_base_address.ensures.err.reason)

pub returns-in_ok-read_address-in-DW_RLE_base_address-clause-ok : goal.returns-in_ok-read_address-in-DW_RLE_base_address-clause-ok
unfolding range_row
returns-in_ok-read_address-in-DW_RLE_base_address-clause-ok g c =
    one_range (g.R.Reader.reading c.args.input.now).is_big c.args.size c.args.kind.0 (address_read (g.R.Reader.reading c.args.input.now).is_big c.args.size) BaseAddress (at_kind (g.R.Reader.reading c.args.input.now).is_big c.args.size c.args.kind.0 5 _ refl (omega arith)) _ _ _ (address_took c.args.size _ _ _ c.in_ok-read_address-in-DW_RLE_base_address.ensures.ok)

pub returns-in_err-read_address-in-DW_RLE_start_end-clause-err : goal.returns-in_err-read_address-in-DW_RLE_start_end-clause-err
unfolding range_row
returns-in_err-read_address-in-DW_RLE_start_end-clause-err g c =
    let p = err_from_is_err_and c.from_residual-in_err-read_address-in-DW_RLE_start_end.result c.from_residual-in_err-read_address-in-DW_RLE_start_end.ensures.1 in
    rw (p.1, p.2) (two_range_first (g.R.Reader.reading c.args.input.now).is_big c.args.size c.args.kind.0 (address_read (g.R.Reader.reading c.args.input.now).is_big c.args.size) (address_read (g.R.Reader.reading c.args.input.now).is_big c.args.size) StartEnd (at_kind (g.R.Reader.reading c.args.input.now).is_big c.args.size c.args.kind.0 6 _ refl (omega arith)) _ _ c.in_err-read_address-in-DW_RLE_start_end.ensures.err.reason)

pub returns-in_err-read_address-in-DW_RLE_start_end-2-clause-err : goal.returns-in_err-read_address-in-DW_RLE_start_end-2-clause-err
unfolding range_row
returns-in_err-read_address-in-DW_RLE_start_end-2-clause-err g c =
    let p = err_from_is_err_and c.from_residual-in_err-read_address-in-DW_RLE_start_end-2.result c.from_residual-in_err-read_address-in-DW_RLE_start_end-2.ensures.1 in
    rw (p.1, p.2) (two_range_second (g.R.Reader.reading c.args.input.now).is_big c.args.size c.args.kind.0 (address_read (g.R.Reader.reading c.args.input.now).is_big c.args.size) (address_read (g.R.Reader.reading c.args.input.now).is_big c.args.size) StartEnd (at_kind (g.R.Reader.reading c.args.input.now).is_big c.args.size c.args.kind.0 6 _ refl (omega arith)) _ _ _ _ (address_took c.args.size _ _ _ c.in_ok-read_address-in-DW_RLE_start_end.ensures.ok) (address_not_after c.args.size _ _ _ _ (went ℕ (address_read (g.R.Reader.reading c.args.input.now).is_big c.args.size) _ _ _ (address_took c.args.size _ _ _ c.in_ok-read_address-in-DW_RLE_start_end.ensures.ok)) c.in_err-read_address-in-DW_RLE_start_end-2.ensures.err.reason))

pub returns-in_ok-read_address-in-DW_RLE_start_end-2-clause-ok : goal.returns-in_ok-read_address-in-DW_RLE_start_end-2-clause-ok
unfolding range_row
returns-in_ok-read_address-in-DW_RLE_start_end-2-clause-ok g c =
    two_range (g.R.Reader.reading c.args.input.now).is_big c.args.size c.args.kind.0 (address_read (g.R.Reader.reading c.args.input.now).is_big c.args.size) (address_read (g.R.Reader.reading c.args.input.now).is_big c.args.size) StartEnd (at_kind (g.R.Reader.reading c.args.input.now).is_big c.args.size c.args.kind.0 6 _ refl (omega arith)) _ _ _ _ _ (address_took c.args.size _ _ _ c.in_ok-read_address-in-DW_RLE_start_end.ensures.ok) (address_after c.args.size _ _ _ _ (went ℕ (address_read (g.R.Reader.reading c.args.input.now).is_big c.args.size) _ _ _ (address_took c.args.size _ _ _ c.in_ok-read_address-in-DW_RLE_start_end.ensures.ok)) c.in_ok-read_address-in-DW_RLE_start_end-2.ensures.ok)

pub returns-in_err-read_address-in-DW_RLE_start_length-clause-err : goal.returns-in_err-read_address-in-DW_RLE_start_length-clause-err
unfolding range_row
returns-in_err-read_address-in-DW_RLE_start_length-clause-err g c =
    let p = err_from_is_err_and c.from_residual-in_err-read_address-in-DW_RLE_start_length.result c.from_residual-in_err-read_address-in-DW_RLE_start_length.ensures.1 in
    rw (p.1, p.2) (two_range_first (g.R.Reader.reading c.args.input.now).is_big c.args.size c.args.kind.0 (address_read (g.R.Reader.reading c.args.input.now).is_big c.args.size) uleb_read StartLength (at_kind (g.R.Reader.reading c.args.input.now).is_big c.args.size c.args.kind.0 7 _ refl (omega arith)) _ _ c.in_err-read_address-in-DW_RLE_start_length.ensures.err.reason)

pub returns-in_err-read_uleb128-in-DW_RLE_start_length-clause-err : goal.returns-in_err-read_uleb128-in-DW_RLE_start_length-clause-err
unfolding range_row
returns-in_err-read_uleb128-in-DW_RLE_start_length-clause-err g c =
    let p = err_from_is_err_and c.from_residual-in_err-read_uleb128-in-DW_RLE_start_length.result c.from_residual-in_err-read_uleb128-in-DW_RLE_start_length.ensures.1 in
    rw (p.1, p.2) (two_range_second (g.R.Reader.reading c.args.input.now).is_big c.args.size c.args.kind.0 (address_read (g.R.Reader.reading c.args.input.now).is_big c.args.size) uleb_read StartLength (at_kind (g.R.Reader.reading c.args.input.now).is_big c.args.size c.args.kind.0 7 _ refl (omega arith)) _ _ _ _ (address_took c.args.size _ _ _ c.in_ok-read_address-in-DW_RLE_start_length.ensures.ok) c.in_err-read_uleb128-in-DW_RLE_start_length.ensures.err.reason)

pub returns-in_ok-read_uleb128-in-DW_RLE_start_length-clause-ok : goal.returns-in_ok-read_uleb128-in-DW_RLE_start_length-clause-ok
unfolding range_row
returns-in_ok-read_uleb128-in-DW_RLE_start_length-clause-ok g c =
    two_range (g.R.Reader.reading c.args.input.now).is_big c.args.size c.args.kind.0 (address_read (g.R.Reader.reading c.args.input.now).is_big c.args.size) uleb_read StartLength (at_kind (g.R.Reader.reading c.args.input.now).is_big c.args.size c.args.kind.0 7 _ refl (omega arith)) _ _ _ _ _ (address_took c.args.size _ _ _ c.in_ok-read_address-in-DW_RLE_start_length.ensures.ok) (took_of ℕ uleb_at uleb_read _ _ _ uleb_law c.in_ok-read_uleb128-in-DW_RLE_start_length.ensures.ok)

pub returns-in_default-clause-err : goal.returns-in_default-clause-err
unfolding range_row
returns-in_default-clause-err g c =
    no_kind (g.R.Reader.reading c.args.input.now).is_big c.args.size c.args.kind.0 _ (rw (ne_eqb c.args.kind.0 0 (omega arith), ne_eqb c.args.kind.0 1 (omega arith), ne_eqb c.args.kind.0 2 (omega arith), ne_eqb c.args.kind.0 3 (omega arith), ne_eqb c.args.kind.0 4 (omega arith), ne_eqb c.args.kind.0 5 (omega arith), ne_eqb c.args.kind.0 6 (omega arith), ne_eqb c.args.kind.0 7 (omega arith)) refl)

pub returns-in-DW_RLE_end_of_list-clause-err : goal.returns-in-DW_RLE_end_of_list-clause-err
returns-in-DW_RLE_end_of_list-clause-err g c = tt

pub returns-in_err-read_uleb128-in-DW_RLE_base_addressx-clause-ok : goal.returns-in_err-read_uleb128-in-DW_RLE_base_addressx-clause-ok
returns-in_err-read_uleb128-in-DW_RLE_base_addressx-clause-ok g c = rw (err_from_is_err_and c.from_residual.result c.from_residual.ensures.1).1 tt

pub returns-in_ok-read_uleb128-in-DW_RLE_base_addressx-clause-err : goal.returns-in_ok-read_uleb128-in-DW_RLE_base_addressx-clause-err
returns-in_ok-read_uleb128-in-DW_RLE_base_addressx-clause-err g c = tt

pub returns-in_err-read_uleb128-in-DW_RLE_startx_endx-clause-ok : goal.returns-in_err-read_uleb128-in-DW_RLE_startx_endx-clause-ok
returns-in_err-read_uleb128-in-DW_RLE_startx_endx-clause-ok g c = rw (err_from_is_err_and c.from_residual-in_err-read_uleb128-in-DW_RLE_startx_endx.result c.from_residual-in_err-read_uleb128-in-DW_RLE_startx_endx.ensures.1).1 tt

pub returns-in_err-read_uleb128-in-DW_RLE_startx_endx-2-clause-ok : goal.returns-in_err-read_uleb128-in-DW_RLE_startx_endx-2-clause-ok
returns-in_err-read_uleb128-in-DW_RLE_startx_endx-2-clause-ok g c = rw (err_from_is_err_and c.from_residual-in_err-read_uleb128-in-DW_RLE_startx_endx-2.result c.from_residual-in_err-read_uleb128-in-DW_RLE_startx_endx-2.ensures.1).1 tt

pub returns-in_ok-read_uleb128-in-DW_RLE_startx_endx-2-clause-err : goal.returns-in_ok-read_uleb128-in-DW_RLE_startx_endx-2-clause-err
returns-in_ok-read_uleb128-in-DW_RLE_startx_endx-2-clause-err g c = tt

pub returns-in_err-read_uleb128-in-DW_RLE_startx_length-clause-ok : goal.returns-in_err-read_uleb128-in-DW_RLE_startx_length-clause-ok
returns-in_err-read_uleb128-in-DW_RLE_startx_length-clause-ok g c = rw (err_from_is_err_and c.from_residual-in_err-read_uleb128-in-DW_RLE_startx_length.result c.from_residual-in_err-read_uleb128-in-DW_RLE_startx_length.ensures.1).1 tt

pub returns-in_err-read_uleb128-in-DW_RLE_startx_length-2-clause-ok : goal.returns-in_err-read_uleb128-in-DW_RLE_startx_length-2-clause-ok
returns-in_err-read_uleb128-in-DW_RLE_startx_length-2-clause-ok g c = rw (err_from_is_err_and c.from_residual-in_err-read_uleb128-in-DW_RLE_startx_length-2.result c.from_residual-in_err-read_uleb128-in-DW_RLE_startx_length-2.ensures.1).1 tt

pub returns-in_ok-read_uleb128-in-DW_RLE_startx_length-2-clause-err : goal.returns-in_ok-read_uleb128-in-DW_RLE_startx_length-2-clause-err
returns-in_ok-read_uleb128-in-DW_RLE_startx_length-2-clause-err g c = tt

pub returns-in_err-read_uleb128-in-DW_RLE_offset_pair-clause-ok : goal.returns-in_err-read_uleb128-in-DW_RLE_offset_pair-clause-ok
returns-in_err-read_uleb128-in-DW_RLE_offset_pair-clause-ok g c = rw (err_from_is_err_and c.from_residual-in_err-read_uleb128-in-DW_RLE_offset_pair.result c.from_residual-in_err-read_uleb128-in-DW_RLE_offset_pair.ensures.1).1 tt

pub returns-in_err-read_uleb128-in-DW_RLE_offset_pair-2-clause-ok : goal.returns-in_err-read_uleb128-in-DW_RLE_offset_pair-2-clause-ok
returns-in_err-read_uleb128-in-DW_RLE_offset_pair-2-clause-ok g c = rw (err_from_is_err_and c.from_residual-in_err-read_uleb128-in-DW_RLE_offset_pair-2.result c.from_residual-in_err-read_uleb128-in-DW_RLE_offset_pair-2.ensures.1).1 tt

pub returns-in_ok-read_uleb128-in-DW_RLE_offset_pair-2-clause-err : goal.returns-in_ok-read_uleb128-in-DW_RLE_offset_pair-2-clause-err
returns-in_ok-read_uleb128-in-DW_RLE_offset_pair-2-clause-err g c = tt

pub returns-in_err-read_address-in-DW_RLE_base_address-clause-ok : goal.returns-in_err-read_address-in-DW_RLE_base_address-clause-ok
returns-in_err-read_address-in-DW_RLE_base_address-clause-ok g c = rw (err_from_is_err_and c.from_residual-in_err-read_address-in-DW_RLE_base_address.result c.from_residual-in_err-read_address-in-DW_RLE_base_address.ensures.1).1 tt

pub returns-in_ok-read_address-in-DW_RLE_base_address-clause-err : goal.returns-in_ok-read_address-in-DW_RLE_base_address-clause-err
returns-in_ok-read_address-in-DW_RLE_base_address-clause-err g c = tt

pub returns-in_err-read_address-in-DW_RLE_start_end-clause-ok : goal.returns-in_err-read_address-in-DW_RLE_start_end-clause-ok
returns-in_err-read_address-in-DW_RLE_start_end-clause-ok g c = rw (err_from_is_err_and c.from_residual-in_err-read_address-in-DW_RLE_start_end.result c.from_residual-in_err-read_address-in-DW_RLE_start_end.ensures.1).1 tt

pub returns-in_err-read_address-in-DW_RLE_start_end-2-clause-ok : goal.returns-in_err-read_address-in-DW_RLE_start_end-2-clause-ok
returns-in_err-read_address-in-DW_RLE_start_end-2-clause-ok g c = rw (err_from_is_err_and c.from_residual-in_err-read_address-in-DW_RLE_start_end-2.result c.from_residual-in_err-read_address-in-DW_RLE_start_end-2.ensures.1).1 tt

pub returns-in_ok-read_address-in-DW_RLE_start_end-2-clause-err : goal.returns-in_ok-read_address-in-DW_RLE_start_end-2-clause-err
returns-in_ok-read_address-in-DW_RLE_start_end-2-clause-err g c = tt

pub returns-in_err-read_address-in-DW_RLE_start_length-clause-ok : goal.returns-in_err-read_address-in-DW_RLE_start_length-clause-ok
returns-in_err-read_address-in-DW_RLE_start_length-clause-ok g c = rw (err_from_is_err_and c.from_residual-in_err-read_address-in-DW_RLE_start_length.result c.from_residual-in_err-read_address-in-DW_RLE_start_length.ensures.1).1 tt

pub returns-in_err-read_uleb128-in-DW_RLE_start_length-clause-ok : goal.returns-in_err-read_uleb128-in-DW_RLE_start_length-clause-ok
returns-in_err-read_uleb128-in-DW_RLE_start_length-clause-ok g c = rw (err_from_is_err_and c.from_residual-in_err-read_uleb128-in-DW_RLE_start_length.result c.from_residual-in_err-read_uleb128-in-DW_RLE_start_length.ensures.1).1 tt

pub returns-in_ok-read_uleb128-in-DW_RLE_start_length-clause-err : goal.returns-in_ok-read_uleb128-in-DW_RLE_start_length-clause-err
returns-in_ok-read_uleb128-in-DW_RLE_start_length-clause-err g c = tt

pub returns-in_default-clause-ok : goal.returns-in_default-clause-ok
returns-in_default-clause-ok g c = tt
