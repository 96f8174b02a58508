use Rattle.std.proofs.Common.{◌≡◌, arith, ℕ, refl, rules, true, false}
use Rattle.std.proofs.lemmas.Bool.{le-leb, lt-leb, ne_eqb}
use Rattle.std.proofs.lemmas.Result.{err_from_is_err_and}
use Rattle.dw_base.specs.Numbers.{is_width}
use Rattle.dw_read.proofs.Chain.{took, went_of, went_none, went_then, went_order, number_took, number_not}
use Rattle.dw_read_lines.specs.LineHeaders.{address_size_read}
use Rattle.dw_read_lines.proofs.reading.read_address_size.Goals as goal

pub returns-then-version-lt5-clause-ok : goal.returns-then-version-lt5-clause-ok
unfolding address_size_read
returns-then-version-lt5-clause-ok g c =
    let big = (g.R.Reader.reading c.args.input.now).is_big in
    took ℕ (address_size_read big c.args.version c.args.size) _ _ _ (went_none _ (g.met.R.Reader.is_reading c.args.input.now)) (rw (lt-leb 5 c.args.version (omega arith)) refl)

pub returns-in_err-address_size-clause-err : goal.returns-in_err-address_size-clause-err
unfolding address_size_read
returns-in_err-address_size-clause-err g c =
    let big = (g.R.Reader.reading c.args.input.now).is_big in
    let p = err_from_is_err_and c.from_residual.result c.from_residual.ensures.1 in
    rw (p.1, p.2, le-leb 5 c.args.version (omega arith), number_not big 1 _ _ refl c.in_err-address_size.ensures.err) refl

pub returns-in_err-segment_size-clause-err : goal.returns-in_err-segment_size-clause-err
unfolding address_size_read
returns-in_err-segment_size-clause-err g c =
    let big = (g.R.Reader.reading c.args.input.now).is_big in
    let w1 = went_of 1 _ _ c.in_ok-address_size.ensures.passes in
    let n1 = number_took big 1 _ _ _ refl c.in_ok-address_size.ensures.ok in
    let p = err_from_is_err_and c.from_residual-in_err-segment_size.result c.from_residual-in_err-segment_size.ensures.1 in
    rw (p.1, p.2, le-leb 5 c.args.version (omega arith), n1, number_not big 1 _ _ (went_order _ _ w1) c.in_err-segment_size.ensures.err) refl

pub returns-then-not-is_address_size-clause-err : goal.returns-then-not-is_address_size-clause-err
unfolding address_size_read
returns-then-not-is_address_size-clause-err g c =
    let big = (g.R.Reader.reading c.args.input.now).is_big in
    let w1 = went_of 1 _ _ c.in_ok-address_size.ensures.passes in
    let n1 = number_took big 1 _ _ _ refl c.in_ok-address_size.ensures.ok in
    let n2 = number_took big 1 _ _ _ (went_order _ _ w1) c.in_ok-segment_size.ensures.ok in
    let w : is_width c.in_ok-address_size.address_size ≡ false = search (rules, c.is_address_size.ensures) in
    rw (le-leb 5 c.args.version (omega arith), n1, n2, w) refl

pub returns-then-segment_size-ne0-clause-err : goal.returns-then-segment_size-ne0-clause-err
unfolding address_size_read
returns-then-segment_size-ne0-clause-err g c =
    let big = (g.R.Reader.reading c.args.input.now).is_big in
    let w1 = went_of 1 _ _ c.in_ok-address_size.ensures.passes in
    let n1 = number_took big 1 _ _ _ refl c.in_ok-address_size.ensures.ok in
    let n2 = number_took big 1 _ _ _ (went_order _ _ w1) c.in_ok-segment_size.ensures.ok in
    let w : is_width c.in_ok-address_size.address_size ≡ true = search (rules, c.is_address_size.ensures) in
    rw (le-leb 5 c.args.version (omega arith), n1, n2, w, ne_eqb c.in_ok-segment_size.segment_size 0 (omega arith)) refl

pub returns-clause-ok : goal.returns-clause-ok
unfolding address_size_read
returns-clause-ok g c =
    let big = (g.R.Reader.reading c.args.input.now).is_big in
    let w1 = went_of 1 _ _ c.in_ok-address_size.ensures.passes in
    let w2 = went_then _ _ _ w1 (went_of 1 _ _ c.in_ok-segment_size.ensures.passes) in
    let n1 = number_took big 1 _ _ _ refl c.in_ok-address_size.ensures.ok in
    let n2 = number_took big 1 _ _ _ (went_order _ _ w1) c.in_ok-segment_size.ensures.ok in
    let w : is_width c.in_ok-address_size.address_size ≡ true = search (rules, c.is_address_size.ensures) in
    let z : c.in_ok-segment_size.segment_size ≡ 0 = omega arith in
    took ℕ (address_size_read big c.args.version c.args.size) _ _ _ w2 (rw (le-leb 5 c.args.version (omega arith), n1, n2, w, z) refl)
