use Rattle.std.proofs.Common.{◌∙◌, sym, ℕ, refl}
use Rattle.std.proofs.lemmas.Result.{err_from_is_err_and}
use Rattle.dw_base.specs.Numbers.{word_of}
use Rattle.dw_read.specs.Headers.{new_begin_read}
use Rattle.dw_read.proofs.Chain.{took, went_then, went_order, number_took, number_not, went_of}
use Rattle.dw_read.proofs.HeaderRead.{begin_no_type, begin_no_size, begin_no_table, new_begins, begin_bad_type, begin_bad_size, begin_whole}
use Rattle.dw_read.proofs.header.read_new_begin.Goals as goal

pub returns-in_err-unit_type-clause-err : goal.returns-in_err-unit_type-clause-err
returns-in_err-unit_type-clause-err g c =
    let big = (g.R.Reader.reading c.args.input.now).is_big in
    let p = err_from_is_err_and c.from_residual.result c.from_residual.ensures.1 in
    rw (p.1, p.2) (begin_no_type big c.args.format _ _ (number_not big 1 _ _ refl c.in_err-unit_type.ensures.err))

pub returns-in_err-address_size-clause-err : goal.returns-in_err-address_size-clause-err
returns-in_err-address_size-clause-err g c =
    let big = (g.R.Reader.reading c.args.input.now).is_big in
    let w1 = went_of 1 _ _ c.in_ok-unit_type.ensures.passes in
    let n1 = number_took big 1 _ _ _ refl c.in_ok-unit_type.ensures.ok in
    let p = err_from_is_err_and c.from_residual-in_err-address_size.result c.from_residual-in_err-address_size.ensures.1 in
    rw (p.1, p.2) (begin_no_size big c.args.format _ _ _ _ n1 (number_not big 1 _ _ (went_order _ _ w1) c.in_err-address_size.ensures.err))

pub returns-in_err-table_offset-clause-err : goal.returns-in_err-table_offset-clause-err
returns-in_err-table_offset-clause-err g c =
    let big = (g.R.Reader.reading c.args.input.now).is_big in
    let w1 = went_of 1 _ _ c.in_ok-unit_type.ensures.passes in
    let n1 = number_took big 1 _ _ _ refl c.in_ok-unit_type.ensures.ok in
    let n2 = number_took big 1 _ _ _ (went_order _ _ w1) c.in_ok-address_size.ensures.ok in
    let w2 = went_then _ _ _ w1 (went_of 1 _ _ c.in_ok-address_size.ensures.passes) in
    let p = err_from_is_err_and c.from_residual-in_err-table_offset.result c.from_residual-in_err-table_offset.ensures.1 in
    rw (p.1, p.2) (begin_no_table big c.args.format _ _ _ _ _ _ n1 n2 (number_not big (word_of c.args.format) _ _ (went_order _ _ w2) c.in_err-table_offset.ensures.err))

pub returns-then-not-is_unit_type-clause-err : goal.returns-then-not-is_unit_type-clause-err
returns-then-not-is_unit_type-clause-err g c =
    let big = (g.R.Reader.reading c.args.input.now).is_big in
    let w1 = went_of 1 _ _ c.in_ok-unit_type.ensures.passes in
    let n1 = number_took big 1 _ _ _ refl c.in_ok-unit_type.ensures.ok in
    let n2 = number_took big 1 _ _ _ (went_order _ _ w1) c.in_ok-address_size.ensures.ok in
    let w2 = went_then _ _ _ w1 (went_of 1 _ _ c.in_ok-address_size.ensures.passes) in
    let n3 = number_took big (word_of c.args.format) _ _ _ (went_order _ _ w2) c.in_ok-table_offset.ensures.ok in
    let w3 = went_then _ _ _ w2 (went_of (word_of c.args.format) _ _ c.in_ok-table_offset.ensures.passes) in
    let b = new_begins big c.args.format _ _ _ _ _ _ _ n1 n2 n3 in
    begin_bad_type big c.args.format _ _ _ _ _ b (sym c.is_unit_type.ensures ∙ c.if-not-is_unit_type.true)

pub returns-then-not-is_address_size-clause-err : goal.returns-then-not-is_address_size-clause-err
returns-then-not-is_address_size-clause-err g c =
    let big = (g.R.Reader.reading c.args.input.now).is_big in
    let w1 = went_of 1 _ _ c.in_ok-unit_type.ensures.passes in
    let n1 = number_took big 1 _ _ _ refl c.in_ok-unit_type.ensures.ok in
    let n2 = number_took big 1 _ _ _ (went_order _ _ w1) c.in_ok-address_size.ensures.ok in
    let w2 = went_then _ _ _ w1 (went_of 1 _ _ c.in_ok-address_size.ensures.passes) in
    let n3 = number_took big (word_of c.args.format) _ _ _ (went_order _ _ w2) c.in_ok-table_offset.ensures.ok in
    let w3 = went_then _ _ _ w2 (went_of (word_of c.args.format) _ _ c.in_ok-table_offset.ensures.passes) in
    let b = new_begins big c.args.format _ _ _ _ _ _ _ n1 n2 n3 in
    begin_bad_size big c.args.format _ _ _ _ _ b (sym c.is_unit_type.ensures ∙ c.if-not-is_unit_type.false) (sym c.is_address_size.ensures ∙ c.if-not-is_address_size.true)

pub returns-in_err-unit_type-clause-ok : goal.returns-in_err-unit_type-clause-ok
returns-in_err-unit_type-clause-ok g c = rw (err_from_is_err_and c.from_residual.result c.from_residual.ensures.1).1 tt

pub returns-in_err-address_size-clause-ok : goal.returns-in_err-address_size-clause-ok
returns-in_err-address_size-clause-ok g c = rw (err_from_is_err_and c.from_residual-in_err-address_size.result c.from_residual-in_err-address_size.ensures.1).1 tt

pub returns-in_err-table_offset-clause-ok : goal.returns-in_err-table_offset-clause-ok
returns-in_err-table_offset-clause-ok g c = rw (err_from_is_err_and c.from_residual-in_err-table_offset.result c.from_residual-in_err-table_offset.ensures.1).1 tt

pub returns-then-not-is_unit_type-clause-ok : goal.returns-then-not-is_unit_type-clause-ok
returns-then-not-is_unit_type-clause-ok g c = tt

pub returns-then-not-is_address_size-clause-ok : goal.returns-then-not-is_address_size-clause-ok
returns-then-not-is_address_size-clause-ok g c = tt

pub returns-clause-err : goal.returns-clause-err
returns-clause-err g c = tt

pub returns-clause-ok : goal.returns-clause-ok
returns-clause-ok g c =
    let big = (g.R.Reader.reading c.args.input.now).is_big in
    let w1 = went_of 1 _ _ c.in_ok-unit_type.ensures.passes in
    let n1 = number_took big 1 _ _ _ refl c.in_ok-unit_type.ensures.ok in
    let n2 = number_took big 1 _ _ _ (went_order _ _ w1) c.in_ok-address_size.ensures.ok in
    let w2 = went_then _ _ _ w1 (went_of 1 _ _ c.in_ok-address_size.ensures.passes) in
    let n3 = number_took big (word_of c.args.format) _ _ _ (went_order _ _ w2) c.in_ok-table_offset.ensures.ok in
    let w3 = went_then _ _ _ w2 (went_of (word_of c.args.format) _ _ c.in_ok-table_offset.ensures.passes) in
    let b = new_begins big c.args.format _ _ _ _ _ _ _ n1 n2 n3 in
    took (ℕ × ℕ × ℕ) (new_begin_read big c.args.format) _ _ _ w3 (begin_whole big c.args.format _ _ _ _ _ b (sym c.is_unit_type.ensures ∙ c.if-not-is_unit_type.false) (sym c.is_address_size.ensures ∙ c.if-not-is_address_size.false))

pub returns-in_err-unit_type-clause-narrow : goal.returns-in_err-unit_type-clause-narrow
returns-in_err-unit_type-clause-narrow g c = rw (err_from_is_err_and c.from_residual.result c.from_residual.ensures.1).1 tt

pub returns-in_err-address_size-clause-narrow : goal.returns-in_err-address_size-clause-narrow
returns-in_err-address_size-clause-narrow g c = rw (err_from_is_err_and c.from_residual-in_err-address_size.result c.from_residual-in_err-address_size.ensures.1).1 tt

pub returns-in_err-table_offset-clause-narrow : goal.returns-in_err-table_offset-clause-narrow
returns-in_err-table_offset-clause-narrow g c = rw (err_from_is_err_and c.from_residual-in_err-table_offset.result c.from_residual-in_err-table_offset.ensures.1).1 tt

pub returns-then-not-is_unit_type-clause-narrow : goal.returns-then-not-is_unit_type-clause-narrow
returns-then-not-is_unit_type-clause-narrow g c = tt

pub returns-then-not-is_address_size-clause-narrow : goal.returns-then-not-is_address_size-clause-narrow
returns-then-not-is_address_size-clause-narrow g c = tt
