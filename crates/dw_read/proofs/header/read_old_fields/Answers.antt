use Rattle.std.proofs.Common.{◌∙◌, sym, refl}
use Rattle.std.proofs.lemmas.Result.{err_from_is_err_and}
use Rattle.dw_base.specs.Numbers.{word_of}
use Rattle.dw_base.specs.Headers.{Header}
use Rattle.dw_read.specs.Headers.{old_fields_read}
use Rattle.dw_read.proofs.Chain.{took, went_then, went_order, number_took, number_not, went_of}
use Rattle.dw_read.proofs.HeaderRead.{old_no_table, old_no_size, old_bad_size, old_whole}
use Rattle.dw_read.proofs.header.read_old_fields.Goals as goal

pub returns-in_err-table_offset-clause-err : goal.returns-in_err-table_offset-clause-err
returns-in_err-table_offset-clause-err g c =
    let big = (g.R.Reader.reading c.args.input.now).is_big in
    let p = err_from_is_err_and c.from_residual.result c.from_residual.ensures.1 in
    rw (p.1, p.2) (old_no_table big c.args.format c.args.version _ _ (number_not big (word_of c.args.format) _ _ refl c.in_err-table_offset.ensures.err))

pub returns-in_err-address_size-clause-err : goal.returns-in_err-address_size-clause-err
returns-in_err-address_size-clause-err g c =
    let big = (g.R.Reader.reading c.args.input.now).is_big in
    let w1 = went_of (word_of c.args.format) _ _ c.in_ok-table_offset.ensures.passes in
    let n1 = number_took big (word_of c.args.format) _ _ _ refl c.in_ok-table_offset.ensures.ok in
    let p = err_from_is_err_and c.from_residual-in_err-address_size.result c.from_residual-in_err-address_size.ensures.1 in
    rw (p.1, p.2) (old_no_size big c.args.format c.args.version _ _ _ _ n1 (number_not big 1 _ _ (went_order _ _ w1) c.in_err-address_size.ensures.err))

pub returns-then-not-is_address_size-clause-err : goal.returns-then-not-is_address_size-clause-err
returns-then-not-is_address_size-clause-err g c =
    let big = (g.R.Reader.reading c.args.input.now).is_big in
    let w1 = went_of (word_of c.args.format) _ _ c.in_ok-table_offset.ensures.passes in
    let n1 = number_took big (word_of c.args.format) _ _ _ refl c.in_ok-table_offset.ensures.ok in
    let n2 = number_took big 1 _ _ _ (went_order _ _ w1) c.in_ok-address_size.ensures.ok in
    old_bad_size big c.args.format c.args.version _ _ _ _ _ n1 n2 (sym c.is_address_size.ensures ∙ c.if-not-is_address_size.true)

pub returns-clause-ok : goal.returns-clause-ok
returns-clause-ok g c =
    let big = (g.R.Reader.reading c.args.input.now).is_big in
    let w1 = went_of (word_of c.args.format) _ _ c.in_ok-table_offset.ensures.passes in
    let n1 = number_took big (word_of c.args.format) _ _ _ refl c.in_ok-table_offset.ensures.ok in
    let n2 = number_took big 1 _ _ _ (went_order _ _ w1) c.in_ok-address_size.ensures.ok in
    let w2 = went_of 1 _ _ c.in_ok-address_size.ensures.passes in
    took Header (old_fields_read big c.args.format c.args.version) _ _ _ (went_then _ _ _ w1 w2) (old_whole big c.args.format c.args.version _ _ _ _ _ n1 n2 (sym c.is_address_size.ensures ∙ c.if-not-is_address_size.false))

pub returns-in_err-table_offset-clause-ok : goal.returns-in_err-table_offset-clause-ok
returns-in_err-table_offset-clause-ok g c = rw (err_from_is_err_and c.from_residual.result c.from_residual.ensures.1).1 tt

pub returns-in_err-address_size-clause-ok : goal.returns-in_err-address_size-clause-ok
returns-in_err-address_size-clause-ok g c = rw (err_from_is_err_and c.from_residual-in_err-address_size.result c.from_residual-in_err-address_size.ensures.1).1 tt

pub returns-then-not-is_address_size-clause-ok : goal.returns-then-not-is_address_size-clause-ok
returns-then-not-is_address_size-clause-ok g c = tt

pub returns-clause-err : goal.returns-clause-err
returns-clause-err g c = tt
