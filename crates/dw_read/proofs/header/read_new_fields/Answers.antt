use Rattle.std.proofs.Common.{ℕ, Option}
use Rattle.std.proofs.lemmas.Result.{err_from_is_err_and}
use Rattle.dw_base.specs.Numbers.{word_of}
use Rattle.dw_base.specs.Headers.{Header}
use Rattle.dw_read.specs.Headers.{optional_read, new_begin_read, new_fields_read}
use Rattle.dw_read.proofs.Chain.{took, went, went_then, went_order}
use Rattle.dw_read.proofs.HeaderRead.{new_not_begun, new_no_identity, new_no_place, new_whole, optional_at}
use Rattle.dw_read.proofs.header.read_new_fields.Goals as goal

pub returns-in_err-unit_type-clause-err : goal.returns-in_err-unit_type-clause-err
returns-in_err-unit_type-clause-err g c =
    let p = err_from_is_err_and c.from_residual.result c.from_residual.ensures.1 in
    rw (p.1, p.2) (new_not_begun (g.R.Reader.reading c.args.input.now).is_big c.args.format _ _ c.in_err-unit_type.ensures.err)

pub returns-in_err-identity-clause-err : goal.returns-in_err-identity-clause-err
returns-in_err-identity-clause-err g c =
    let big = (g.R.Reader.reading c.args.input.now).is_big in
    let begun = c.in_ok-unit_type.ensures.ok in
    let w = went (ℕ × ℕ × ℕ) (new_begin_read big c.args.format) _ _ _ begun in
    let p = err_from_is_err_and c.from_residual-in_err-identity.result c.from_residual-in_err-identity.ensures.1 in
    rw (p.1, p.2) (new_no_identity big c.args.format _ _ _ _ _ _ begun.value (optional_at c.has_identity.result _ _ big 8 _ _ c.has_identity.ensures (went_order _ _ w) c.in_err-identity.ensures.err))

pub returns-in_err-type_offset-clause-err : goal.returns-in_err-type_offset-clause-err
returns-in_err-type_offset-clause-err g c =
    let big = (g.R.Reader.reading c.args.input.now).is_big in
    let begun = c.in_ok-unit_type.ensures.ok in
    let w = went (ℕ × ℕ × ℕ) (new_begin_read big c.args.format) _ _ _ begun in
    let w2 = went_then _ _ _ w (went (Option ℕ) (optional_read c.has_identity.result (g.R.Reader.reading c.read_new_begin.new.input).is_big 8) _ _ _ c.in_ok-identity.ensures.ok) in
    let p = err_from_is_err_and c.from_residual-in_err-type_offset.result c.from_residual-in_err-type_offset.ensures.1 in
    rw (p.1, p.2) (new_no_place big c.args.format _ _ _ _ _ _ _ _ begun.value (optional_at c.has_identity.result _ _ big 8 _ _ c.has_identity.ensures (went_order _ _ w) c.in_ok-identity.ensures.ok.value) (optional_at c.has_type_offset.result _ _ big (word_of c.args.format) _ _ c.has_type_offset.ensures (went_order _ _ w2) c.in_err-type_offset.ensures.err))

pub returns-clause-ok : goal.returns-clause-ok
returns-clause-ok g c =
    let big = (g.R.Reader.reading c.args.input.now).is_big in
    let begun = c.in_ok-unit_type.ensures.ok in
    let w = went (ℕ × ℕ × ℕ) (new_begin_read big c.args.format) _ _ _ begun in
    let w2 = went_then _ _ _ w (went (Option ℕ) (optional_read c.has_identity.result (g.R.Reader.reading c.read_new_begin.new.input).is_big 8) _ _ _ c.in_ok-identity.ensures.ok) in
    let w3 = went_then _ _ _ w2 (went (Option ℕ) (optional_read c.has_type_offset.result (g.R.Reader.reading c.read_identity.new.input).is_big (word_of c.args.format)) _ _ _ c.in_ok-type_offset.ensures.ok) in
    took Header (new_fields_read big c.args.format) _ _ _ w3 (new_whole big c.args.format _ _ _ _ _ _ _ _ _ begun.value (optional_at c.has_identity.result _ _ big 8 _ _ c.has_identity.ensures (went_order _ _ w) c.in_ok-identity.ensures.ok.value) (optional_at c.has_type_offset.result _ _ big (word_of c.args.format) _ _ c.has_type_offset.ensures (went_order _ _ w2) c.in_ok-type_offset.ensures.ok.value))

pub returns-in_err-unit_type-clause-ok : goal.returns-in_err-unit_type-clause-ok
returns-in_err-unit_type-clause-ok g c = rw (err_from_is_err_and c.from_residual.result c.from_residual.ensures.1).1 tt

pub returns-in_err-identity-clause-ok : goal.returns-in_err-identity-clause-ok
returns-in_err-identity-clause-ok g c = rw (err_from_is_err_and c.from_residual-in_err-identity.result c.from_residual-in_err-identity.ensures.1).1 tt

pub returns-in_err-type_offset-clause-ok : goal.returns-in_err-type_offset-clause-ok
returns-in_err-type_offset-clause-ok g c = rw (err_from_is_err_and c.from_residual-in_err-type_offset.result c.from_residual-in_err-type_offset.ensures.1).1 tt

pub returns-clause-err : goal.returns-clause-err
returns-clause-err g c = tt
