use Rattle.std.proofs.Common.{ℕ, ℤ, List, refl, rules}
use Rattle.std.proofs.lemmas.Result.{err_from_is_err_and}
use mir.Val.{SFits}
use mir.Syntax.{w64}
use Rattle.std.proofs.lemmas.Int.{to_z-of_z}
use Rattle.dw_base.specs.Leb128.{uleb_at, sleb_at}
use Rattle.dw_base.specs.Forms.{Operand, text_at}
use Rattle.dw_read.specs.Reasons.{uleb_read, sleb_read, text_read}
use Rattle.dw_read.specs.Kinds.{kind_in_grammar}
use Rattle.dw_read.specs.FormReasons.{direct_read}
use Rattle.dw_read.proofs.Laws.{uleb_law, sleb_law, text_law}
use Rattle.dw_read.proofs.Chain.{took_of, took, went, went_none, went_of, went_then, number_took, number_not}
use Rattle.dw_read.proofs.HeaderParts.{bytes_took}
use Rattle.dw_read.proofs.OperandLaws.{direct_empty, direct_fixed, direct_fixed_err, direct_wide, direct_wide_err, direct_uleb, direct_uleb_err, direct_sleb, direct_sleb_err, direct_block, direct_block_no_length, direct_block_cut, direct_uleb_block, direct_uleb_block_no_length, direct_uleb_block_cut, direct_zeroed, direct_zeroed_err, direct_indirect}
use Rattle.dw_read.proofs.operand.read_operand.Goals as goal

pub returns-in_err-number-in-Fixed-clause-err : goal.returns-in_err-number-in-Fixed-clause-err
returns-in_err-number-in-Fixed-clause-err g c =
    let p = err_from_is_err_and c.from_residual.result c.from_residual.ensures.1 in
    rw (p.1, p.2) (direct_fixed_err (g.R.Reader.reading c.args.input.now).is_big c.args.kind _ _ _ c.in-Fixed.is (number_not _ c.in-Fixed.width _ _ refl c.in_err-number-in-Fixed.ensures.err))

pub returns-in_err-number-in-Wide-clause-err : goal.returns-in_err-number-in-Wide-clause-err
returns-in_err-number-in-Wide-clause-err g c =
    let p = err_from_is_err_and c.from_residual-in_err-number-in-Wide.result c.from_residual-in_err-number-in-Wide.ensures.1 in
    rw (p.1, p.2) (direct_wide_err (g.R.Reader.reading c.args.input.now).is_big c.args.kind _ _ c.in-Wide.is (number_not _ 16 _ _ refl c.in_err-number-in-Wide.ensures.err))

pub returns-in_err-number-in-Uleb-clause-err : goal.returns-in_err-number-in-Uleb-clause-err
returns-in_err-number-in-Uleb-clause-err g c =
    let p = err_from_is_err_and c.from_residual-in_err-number-in-Uleb.result c.from_residual-in_err-number-in-Uleb.ensures.1 in
    rw (p.1, p.2) (direct_uleb_err (g.R.Reader.reading c.args.input.now).is_big c.args.kind _ _ c.in-Uleb.is c.in_err-number-in-Uleb.ensures.err.reason)

pub returns-in_err-number-in-Sleb-clause-err : goal.returns-in_err-number-in-Sleb-clause-err
returns-in_err-number-in-Sleb-clause-err g c =
    let p = err_from_is_err_and c.from_residual-in_err-number-in-Sleb.result c.from_residual-in_err-number-in-Sleb.ensures.1 in
    rw (p.1, p.2) (direct_sleb_err (g.R.Reader.reading c.args.input.now).is_big c.args.kind _ _ c.in-Sleb.is c.in_err-number-in-Sleb.ensures.err.reason)

pub returns-in_err-length-in-Block-clause-err : goal.returns-in_err-length-in-Block-clause-err
returns-in_err-length-in-Block-clause-err g c =
    let p = err_from_is_err_and c.from_residual-in_err-length-in-Block.result c.from_residual-in_err-length-in-Block.ensures.1 in
    rw (p.1, p.2) (direct_block_no_length (g.R.Reader.reading c.args.input.now).is_big c.args.kind _ _ _ c.in-Block.is (number_not _ c.in-Block.width _ _ refl c.in_err-length-in-Block.ensures.err))

pub returns-in_err-bytes-in-Block-clause-err : goal.returns-in_err-bytes-in-Block-clause-err
returns-in_err-bytes-in-Block-clause-err g c =
    let p = err_from_is_err_and c.from_residual-in_err-bytes-in-Block.result c.from_residual-in_err-bytes-in-Block.ensures.1 in
    rw (p.1, p.2) (direct_block_cut (g.R.Reader.reading c.args.input.now).is_big c.args.kind _ _ _ _ _ c.in-Block.is (number_took _ c.in-Block.width _ _ _ refl c.in_ok-length-in-Block.ensures.ok) c.in_err-bytes-in-Block.ensures.err.reason)

pub returns-in_err-length-in-UlebBlock-clause-err : goal.returns-in_err-length-in-UlebBlock-clause-err
returns-in_err-length-in-UlebBlock-clause-err g c =
    let p = err_from_is_err_and c.from_residual-in_err-length-in-UlebBlock.result c.from_residual-in_err-length-in-UlebBlock.ensures.1 in
    rw (p.1, p.2) (direct_uleb_block_no_length (g.R.Reader.reading c.args.input.now).is_big c.args.kind _ _ c.in-UlebBlock.is c.in_err-length-in-UlebBlock.ensures.err.reason)

pub returns-in_err-bytes-in-UlebBlock-clause-err : goal.returns-in_err-bytes-in-UlebBlock-clause-err
returns-in_err-bytes-in-UlebBlock-clause-err g c =
    let p = err_from_is_err_and c.from_residual-in_err-bytes-in-UlebBlock.result c.from_residual-in_err-bytes-in-UlebBlock.ensures.1 in
    rw (p.1, p.2) (direct_uleb_block_cut (g.R.Reader.reading c.args.input.now).is_big c.args.kind _ _ _ _ c.in-UlebBlock.is (took_of ℕ uleb_at uleb_read _ _ _ uleb_law c.in_ok-length-in-UlebBlock.ensures.ok).value c.in_err-bytes-in-UlebBlock.ensures.err.reason)

pub returns-in_err-text-in-Zeroed-clause-err : goal.returns-in_err-text-in-Zeroed-clause-err
returns-in_err-text-in-Zeroed-clause-err g c =
    let p = err_from_is_err_and c.from_residual-in_err-text-in-Zeroed.result c.from_residual-in_err-text-in-Zeroed.ensures.1 in
    rw (p.1, p.2) (direct_zeroed_err (g.R.Reader.reading c.args.input.now).is_big c.args.kind _ _ c.in-Zeroed.is c.in_err-text-in-Zeroed.ensures.err.reason)

pub returns-in-Empty-clause-ok : goal.returns-in-Empty-clause-ok
returns-in-Empty-clause-ok g c =
    took Operand (direct_read (g.R.Reader.reading c.args.input.now).is_big (kind_in_grammar c.args.kind)) _ _ _ (went_none _ (g.met.R.Reader.is_reading c.args.input.now)) (direct_empty (g.R.Reader.reading c.args.input.now).is_big c.args.kind _ c.in-Empty.is)

pub returns-in_ok-number-in-Fixed-clause-ok : goal.returns-in_ok-number-in-Fixed-clause-ok
returns-in_ok-number-in-Fixed-clause-ok g c =
    took Operand (direct_read (g.R.Reader.reading c.args.input.now).is_big (kind_in_grammar c.args.kind)) _ _ _ (went_of c.in-Fixed.width _ _ c.in_ok-number-in-Fixed.ensures.passes) (direct_fixed (g.R.Reader.reading c.args.input.now).is_big c.args.kind _ _ _ _ c.in-Fixed.is (number_took _ c.in-Fixed.width _ _ _ refl c.in_ok-number-in-Fixed.ensures.ok))

pub returns-in_ok-number-in-Wide-clause-ok : goal.returns-in_ok-number-in-Wide-clause-ok
returns-in_ok-number-in-Wide-clause-ok g c =
    took Operand (direct_read (g.R.Reader.reading c.args.input.now).is_big (kind_in_grammar c.args.kind)) _ _ _ (went_of 16 _ _ c.in_ok-number-in-Wide.ensures.passes) (direct_wide (g.R.Reader.reading c.args.input.now).is_big c.args.kind _ _ _ c.in-Wide.is (number_took _ 16 _ _ _ refl c.in_ok-number-in-Wide.ensures.ok))

pub returns-in_ok-number-in-Uleb-clause-ok : goal.returns-in_ok-number-in-Uleb-clause-ok
returns-in_ok-number-in-Uleb-clause-ok g c =
    let t = took_of ℕ uleb_at uleb_read _ _ _ uleb_law c.in_ok-number-in-Uleb.ensures.ok in
    took Operand (direct_read (g.R.Reader.reading c.args.input.now).is_big (kind_in_grammar c.args.kind)) _ _ _ (went ℕ uleb_read _ _ _ t) (direct_uleb (g.R.Reader.reading c.args.input.now).is_big c.args.kind _ _ _ c.in-Uleb.is t.value)

pub returns-in_ok-number-in-Sleb-clause-ok : goal.returns-in_ok-number-in-Sleb-clause-ok
returns-in_ok-number-in-Sleb-clause-ok g c =
    let fits : SFits w64 c.in_ok-number-in-Sleb.number = search rules in
    let t = took_of ℤ sleb_at sleb_read _ _ _ sleb_law c.in_ok-number-in-Sleb.ensures.ok in
    rw (to_z-of_z w64 c.in_ok-number-in-Sleb.number fits)
    (took Operand (direct_read (g.R.Reader.reading c.args.input.now).is_big (kind_in_grammar c.args.kind)) _ _ _ (went ℤ sleb_read _ _ _ t) (direct_sleb (g.R.Reader.reading c.args.input.now).is_big c.args.kind _ _ _ c.in-Sleb.is t.value))

pub returns-in_ok-bytes-in-Block-clause-ok : goal.returns-in_ok-bytes-in-Block-clause-ok
returns-in_ok-bytes-in-Block-clause-ok g c =
    took Operand (direct_read (g.R.Reader.reading c.args.input.now).is_big (kind_in_grammar c.args.kind)) _ _ _ (went_then _ _ _ (went_of c.in-Block.width _ _ c.in_ok-length-in-Block.ensures.passes) (went_of c.in_ok-length-in-Block.length _ _ c.in_ok-bytes-in-Block.ensures.ok)) (direct_block (g.R.Reader.reading c.args.input.now).is_big c.args.kind _ _ _ _ _ _ c.in-Block.is (number_took _ c.in-Block.width _ _ _ refl c.in_ok-length-in-Block.ensures.ok) (bytes_took c.in_ok-length-in-Block.length _ _ _ (g.met.R.Reader.is_reading c.read_uint-in-Block.new.self) c.in_ok-bytes-in-Block.ensures.part c.in_ok-bytes-in-Block.ensures.ok))

pub returns-in_ok-bytes-in-UlebBlock-clause-ok : goal.returns-in_ok-bytes-in-UlebBlock-clause-ok
returns-in_ok-bytes-in-UlebBlock-clause-ok g c =
    let t = took_of ℕ uleb_at uleb_read _ _ _ uleb_law c.in_ok-length-in-UlebBlock.ensures.ok in
    took Operand (direct_read (g.R.Reader.reading c.args.input.now).is_big (kind_in_grammar c.args.kind)) _ _ _ (went_then _ _ _ (went ℕ uleb_read _ _ _ t) (went_of c.in_ok-length-in-UlebBlock.length _ _ c.in_ok-bytes-in-UlebBlock.ensures.ok)) (direct_uleb_block (g.R.Reader.reading c.args.input.now).is_big c.args.kind _ _ _ _ _ c.in-UlebBlock.is t.value (bytes_took c.in_ok-length-in-UlebBlock.length _ _ _ (g.met.R.Reader.is_reading c.read_uleb128-in-UlebBlock.new.self) c.in_ok-bytes-in-UlebBlock.ensures.part c.in_ok-bytes-in-UlebBlock.ensures.ok))

pub returns-in_ok-text-in-Zeroed-clause-ok : goal.returns-in_ok-text-in-Zeroed-clause-ok
returns-in_ok-text-in-Zeroed-clause-ok g c =
    let t = took_of (List ℕ) text_at text_read _ _ _ text_law c.in_ok-text-in-Zeroed.ensures.ok in
    took Operand (direct_read (g.R.Reader.reading c.args.input.now).is_big (kind_in_grammar c.args.kind)) _ _ _ (went (List ℕ) text_read _ _ _ t) (direct_zeroed (g.R.Reader.reading c.args.input.now).is_big c.args.kind _ _ _ c.in-Zeroed.is t.value)

pub returns-in-Indirect-clause-err : goal.returns-in-Indirect-clause-err
returns-in-Indirect-clause-err g c = direct_indirect (g.R.Reader.reading c.args.input.now).is_big c.args.kind _ c.in-Indirect.is

pub returns-in_err-number-in-Fixed-clause-ok : goal.returns-in_err-number-in-Fixed-clause-ok
returns-in_err-number-in-Fixed-clause-ok g c = rw (err_from_is_err_and c.from_residual.result c.from_residual.ensures.1).1 tt

pub returns-in_err-number-in-Fixed-clause-order : goal.returns-in_err-number-in-Fixed-clause-order
returns-in_err-number-in-Fixed-clause-order g c = rw (err_from_is_err_and c.from_residual.result c.from_residual.ensures.1).1 tt

pub returns-in_err-number-in-Wide-clause-ok : goal.returns-in_err-number-in-Wide-clause-ok
returns-in_err-number-in-Wide-clause-ok g c = rw (err_from_is_err_and c.from_residual-in_err-number-in-Wide.result c.from_residual-in_err-number-in-Wide.ensures.1).1 tt

pub returns-in_err-number-in-Wide-clause-order : goal.returns-in_err-number-in-Wide-clause-order
returns-in_err-number-in-Wide-clause-order g c = rw (err_from_is_err_and c.from_residual-in_err-number-in-Wide.result c.from_residual-in_err-number-in-Wide.ensures.1).1 tt

pub returns-in_err-number-in-Uleb-clause-ok : goal.returns-in_err-number-in-Uleb-clause-ok
returns-in_err-number-in-Uleb-clause-ok g c = rw (err_from_is_err_and c.from_residual-in_err-number-in-Uleb.result c.from_residual-in_err-number-in-Uleb.ensures.1).1 tt

pub returns-in_err-number-in-Uleb-clause-order : goal.returns-in_err-number-in-Uleb-clause-order
returns-in_err-number-in-Uleb-clause-order g c = rw (err_from_is_err_and c.from_residual-in_err-number-in-Uleb.result c.from_residual-in_err-number-in-Uleb.ensures.1).1 tt

pub returns-in_err-number-in-Sleb-clause-ok : goal.returns-in_err-number-in-Sleb-clause-ok
returns-in_err-number-in-Sleb-clause-ok g c = rw (err_from_is_err_and c.from_residual-in_err-number-in-Sleb.result c.from_residual-in_err-number-in-Sleb.ensures.1).1 tt

pub returns-in_err-number-in-Sleb-clause-order : goal.returns-in_err-number-in-Sleb-clause-order
returns-in_err-number-in-Sleb-clause-order g c = rw (err_from_is_err_and c.from_residual-in_err-number-in-Sleb.result c.from_residual-in_err-number-in-Sleb.ensures.1).1 tt

pub returns-in_err-length-in-Block-clause-ok : goal.returns-in_err-length-in-Block-clause-ok
returns-in_err-length-in-Block-clause-ok g c = rw (err_from_is_err_and c.from_residual-in_err-length-in-Block.result c.from_residual-in_err-length-in-Block.ensures.1).1 tt

pub returns-in_err-length-in-Block-clause-order : goal.returns-in_err-length-in-Block-clause-order
returns-in_err-length-in-Block-clause-order g c = rw (err_from_is_err_and c.from_residual-in_err-length-in-Block.result c.from_residual-in_err-length-in-Block.ensures.1).1 tt

pub returns-in_err-bytes-in-Block-clause-ok : goal.returns-in_err-bytes-in-Block-clause-ok
returns-in_err-bytes-in-Block-clause-ok g c = rw (err_from_is_err_and c.from_residual-in_err-bytes-in-Block.result c.from_residual-in_err-bytes-in-Block.ensures.1).1 tt

pub returns-in_err-bytes-in-Block-clause-order : goal.returns-in_err-bytes-in-Block-clause-order
returns-in_err-bytes-in-Block-clause-order g c = rw (err_from_is_err_and c.from_residual-in_err-bytes-in-Block.result c.from_residual-in_err-bytes-in-Block.ensures.1).1 tt

pub returns-in_err-length-in-UlebBlock-clause-ok : goal.returns-in_err-length-in-UlebBlock-clause-ok
returns-in_err-length-in-UlebBlock-clause-ok g c = rw (err_from_is_err_and c.from_residual-in_err-length-in-UlebBlock.result c.from_residual-in_err-length-in-UlebBlock.ensures.1).1 tt

pub returns-in_err-length-in-UlebBlock-clause-order : goal.returns-in_err-length-in-UlebBlock-clause-order
returns-in_err-length-in-UlebBlock-clause-order g c = rw (err_from_is_err_and c.from_residual-in_err-length-in-UlebBlock.result c.from_residual-in_err-length-in-UlebBlock.ensures.1).1 tt

pub returns-in_err-bytes-in-UlebBlock-clause-ok : goal.returns-in_err-bytes-in-UlebBlock-clause-ok
returns-in_err-bytes-in-UlebBlock-clause-ok g c = rw (err_from_is_err_and c.from_residual-in_err-bytes-in-UlebBlock.result c.from_residual-in_err-bytes-in-UlebBlock.ensures.1).1 tt

pub returns-in_err-bytes-in-UlebBlock-clause-order : goal.returns-in_err-bytes-in-UlebBlock-clause-order
returns-in_err-bytes-in-UlebBlock-clause-order g c = rw (err_from_is_err_and c.from_residual-in_err-bytes-in-UlebBlock.result c.from_residual-in_err-bytes-in-UlebBlock.ensures.1).1 tt

pub returns-in_err-text-in-Zeroed-clause-ok : goal.returns-in_err-text-in-Zeroed-clause-ok
returns-in_err-text-in-Zeroed-clause-ok g c = rw (err_from_is_err_and c.from_residual-in_err-text-in-Zeroed.result c.from_residual-in_err-text-in-Zeroed.ensures.1).1 tt

pub returns-in_err-text-in-Zeroed-clause-order : goal.returns-in_err-text-in-Zeroed-clause-order
returns-in_err-text-in-Zeroed-clause-order g c = rw (err_from_is_err_and c.from_residual-in_err-text-in-Zeroed.result c.from_residual-in_err-text-in-Zeroed.ensures.1).1 tt

pub returns-in-Empty-clause-order : goal.returns-in-Empty-clause-order
returns-in-Empty-clause-order g c = tt

pub returns-in-Empty-clause-err : goal.returns-in-Empty-clause-err
returns-in-Empty-clause-err g c = tt

pub returns-in-Indirect-clause-ok : goal.returns-in-Indirect-clause-ok
returns-in-Indirect-clause-ok g c = tt

pub returns-in-Indirect-clause-order : goal.returns-in-Indirect-clause-order
returns-in-Indirect-clause-order g c = tt

pub returns-in_ok-number-in-Fixed-clause-order : goal.returns-in_ok-number-in-Fixed-clause-order
returns-in_ok-number-in-Fixed-clause-order g c = tt

pub returns-in_ok-number-in-Fixed-clause-err : goal.returns-in_ok-number-in-Fixed-clause-err
returns-in_ok-number-in-Fixed-clause-err g c = tt

pub returns-in_ok-number-in-Wide-clause-order : goal.returns-in_ok-number-in-Wide-clause-order
returns-in_ok-number-in-Wide-clause-order g c = tt

pub returns-in_ok-number-in-Wide-clause-err : goal.returns-in_ok-number-in-Wide-clause-err
returns-in_ok-number-in-Wide-clause-err g c = tt

pub returns-in_ok-number-in-Uleb-clause-order : goal.returns-in_ok-number-in-Uleb-clause-order
returns-in_ok-number-in-Uleb-clause-order g c = tt

pub returns-in_ok-number-in-Uleb-clause-err : goal.returns-in_ok-number-in-Uleb-clause-err
returns-in_ok-number-in-Uleb-clause-err g c = tt

pub returns-in_ok-number-in-Sleb-clause-order : goal.returns-in_ok-number-in-Sleb-clause-order
returns-in_ok-number-in-Sleb-clause-order g c = tt

pub returns-in_ok-number-in-Sleb-clause-err : goal.returns-in_ok-number-in-Sleb-clause-err
returns-in_ok-number-in-Sleb-clause-err g c = tt

pub returns-in_ok-bytes-in-Block-clause-err : goal.returns-in_ok-bytes-in-Block-clause-err
returns-in_ok-bytes-in-Block-clause-err g c = tt

pub returns-in_ok-bytes-in-UlebBlock-clause-err : goal.returns-in_ok-bytes-in-UlebBlock-clause-err
returns-in_ok-bytes-in-UlebBlock-clause-err g c = tt

pub returns-in_ok-text-in-Zeroed-clause-err : goal.returns-in_ok-text-in-Zeroed-clause-err
returns-in_ok-text-in-Zeroed-clause-err g c = tt
