use Rattle.std.proofs.Common.{◌≡◌, ◌∙◌, sym, subst, refl, ℕ, Ok}
use Rattle.std.proofs.lemmas.Result.{err_from_is_err_and}
use Rattle.dw_base.specs.Numbers.{word_of}
use Rattle.dw_read.proofs.Chain.{took, went_then, went_order, number_took, number_not, went_of}
use Rattle.dw_read.specs.Reading.{left, part}
use Rattle.dw_read.specs.Reasons.{bytes_read}
use Rattle.dw_read.proofs.HeaderParts.{bytes_took}
use Rattle.dw_arange_table.specs.Reading.{fields_read}
use Rattle.dw_arange_table.proofs.ReadSteps.{no_version, bad_version, no_unit, no_size, bad_size, no_selector, bad_selector, no_padding, whole_fields}
use Rattle.dw_arange_table.proofs.read.read_fields.Goals as goal

pub returns-in_err-version-clause-err : goal.returns-in_err-version-clause-err
returns-in_err-version-clause-err g c =
    let big = (g.R.Reader.reading c.args.input.now).is_big in
    let p = err_from_is_err_and c.from_residual.result c.from_residual.ensures.1 in
    rw (p.1, p.2) (no_version big c.args.format _ _ (number_not big 2 _ _ refl c.in_err-version.ensures.err))

pub returns-then-version-ne2-clause-err : goal.returns-then-version-ne2-clause-err
returns-then-version-ne2-clause-err g c =
    let big = (g.R.Reader.reading c.args.input.now).is_big in
    bad_version big c.args.format _ _ _ (number_took big 2 _ _ _ refl c.in_ok-version.ensures.ok) c.if-version-ne2.true

pub returns-in_err-unit-clause-err : goal.returns-in_err-unit-clause-err
returns-in_err-unit-clause-err g c =
    let big = (g.R.Reader.reading c.args.input.now).is_big in
    let w1 = went_of 2 _ _ c.in_ok-version.ensures.passes in
    let p = err_from_is_err_and c.from_residual-in_err-unit.result c.from_residual-in_err-unit.ensures.1 in
    rw (p.1, p.2) (no_unit big c.args.format _ _ _ _ (number_took big 2 _ _ _ refl c.in_ok-version.ensures.ok) c.if-version-ne2.false (number_not big (word_of c.args.format) _ _ (went_order _ _ w1) c.in_err-unit.ensures.err))

pub returns-in_err-address_size-clause-err : goal.returns-in_err-address_size-clause-err
returns-in_err-address_size-clause-err g c =
    let big = (g.R.Reader.reading c.args.input.now).is_big in
    let w1 = went_of 2 _ _ c.in_ok-version.ensures.passes in
    let w2 = went_then _ _ _ w1 (went_of (word_of c.args.format) _ _ c.in_ok-unit.ensures.passes) in
    let n1 = number_took big 2 _ _ _ refl c.in_ok-version.ensures.ok in
    let n2 = number_took big (word_of c.args.format) _ _ _ (went_order _ _ w1) c.in_ok-unit.ensures.ok in
    let p = err_from_is_err_and c.from_residual-in_err-address_size.result c.from_residual-in_err-address_size.ensures.1 in
    rw (p.1, p.2) (no_size big c.args.format _ _ _ _ _ _ n1 c.if-version-ne2.false n2 (number_not big 1 _ _ (went_order _ _ w2) c.in_err-address_size.ensures.err))

pub returns-then-not-is_width-clause-err : goal.returns-then-not-is_width-clause-err
returns-then-not-is_width-clause-err g c =
    let big = (g.R.Reader.reading c.args.input.now).is_big in
    let w1 = went_of 2 _ _ c.in_ok-version.ensures.passes in
    let w2 = went_then _ _ _ w1 (went_of (word_of c.args.format) _ _ c.in_ok-unit.ensures.passes) in
    let n1 = number_took big 2 _ _ _ refl c.in_ok-version.ensures.ok in
    let n2 = number_took big (word_of c.args.format) _ _ _ (went_order _ _ w1) c.in_ok-unit.ensures.ok in
    let n3 = number_took big 1 _ _ _ (went_order _ _ w2) c.in_ok-address_size.ensures.ok in
    bad_size big c.args.format _ _ _ _ _ _ _ n1 c.if-version-ne2.false n2 n3 (sym c.is_width.ensures ∙ c.if-not-is_width.true)

pub returns-in_err-selector_size-clause-err : goal.returns-in_err-selector_size-clause-err
returns-in_err-selector_size-clause-err g c =
    let big = (g.R.Reader.reading c.args.input.now).is_big in
    let w1 = went_of 2 _ _ c.in_ok-version.ensures.passes in
    let w2 = went_then _ _ _ w1 (went_of (word_of c.args.format) _ _ c.in_ok-unit.ensures.passes) in
    let w3 = went_then _ _ _ w2 (went_of 1 _ _ c.in_ok-address_size.ensures.passes) in
    let n1 = number_took big 2 _ _ _ refl c.in_ok-version.ensures.ok in
    let n2 = number_took big (word_of c.args.format) _ _ _ (went_order _ _ w1) c.in_ok-unit.ensures.ok in
    let n3 = number_took big 1 _ _ _ (went_order _ _ w2) c.in_ok-address_size.ensures.ok in
    let p = err_from_is_err_and c.from_residual-in_err-selector_size.result c.from_residual-in_err-selector_size.ensures.1 in
    rw (p.1, p.2) (no_selector big c.args.format _ _ _ _ _ _ _ _ n1 c.if-version-ne2.false n2 n3 (sym c.is_width.ensures ∙ c.if-not-is_width.false) (number_not big 1 _ _ (went_order _ _ w3) c.in_err-selector_size.ensures.err))

pub returns-then-selector_size-ne0-clause-err : goal.returns-then-selector_size-ne0-clause-err
returns-then-selector_size-ne0-clause-err g c =
    let big = (g.R.Reader.reading c.args.input.now).is_big in
    let w1 = went_of 2 _ _ c.in_ok-version.ensures.passes in
    let w2 = went_then _ _ _ w1 (went_of (word_of c.args.format) _ _ c.in_ok-unit.ensures.passes) in
    let w3 = went_then _ _ _ w2 (went_of 1 _ _ c.in_ok-address_size.ensures.passes) in
    let n1 = number_took big 2 _ _ _ refl c.in_ok-version.ensures.ok in
    let n2 = number_took big (word_of c.args.format) _ _ _ (went_order _ _ w1) c.in_ok-unit.ensures.ok in
    let n3 = number_took big 1 _ _ _ (went_order _ _ w2) c.in_ok-address_size.ensures.ok in
    let n4 = number_took big 1 _ _ _ (went_order _ _ w3) c.in_ok-selector_size.ensures.ok in
    bad_selector big c.args.format _ _ _ _ _ _ _ _ _ n1 c.if-version-ne2.false n2 n3 (sym c.is_width.ensures ∙ c.if-not-is_width.false) n4 c.if-selector_size-ne0.true

pub returns-in_err-skip-clause-err : goal.returns-in_err-skip-clause-err
returns-in_err-skip-clause-err g c =
    let big = (g.R.Reader.reading c.args.input.now).is_big in
    let w1 = went_of 2 _ _ c.in_ok-version.ensures.passes in
    let w2 = went_then _ _ _ w1 (went_of (word_of c.args.format) _ _ c.in_ok-unit.ensures.passes) in
    let w3 = went_then _ _ _ w2 (went_of 1 _ _ c.in_ok-address_size.ensures.passes) in
    let n1 = number_took big 2 _ _ _ refl c.in_ok-version.ensures.ok in
    let n2 = number_took big (word_of c.args.format) _ _ _ (went_order _ _ w1) c.in_ok-unit.ensures.ok in
    let n3 = number_took big 1 _ _ _ (went_order _ _ w2) c.in_ok-address_size.ensures.ok in
    let n4 = number_took big 1 _ _ _ (went_order _ _ w3) c.in_ok-selector_size.ensures.ok in
    let p = err_from_is_err_and c.from_residual-in_err-skip.result c.from_residual-in_err-skip.ensures.1 in
    let reason = rw c.padding.ensures.is at c.in_err-skip.ensures.err.reason in
    rw (p.1, p.2) (no_padding big c.args.format _ _ _ _ _ _ _ _ _ _ n1 c.if-version-ne2.false n2 n3 (sym c.is_width.ensures ∙ c.if-not-is_width.false) n4 c.if-selector_size-ne0.false reason)

pub returns-clause-ok : goal.returns-clause-ok
returns-clause-ok g c =
    let reading = g.R.Reader.reading in
    let big = (reading c.args.input.now).is_big in
    let w1 = went_of 2 _ _ c.in_ok-version.ensures.passes in
    let w2 = went_then _ _ _ w1 (went_of (word_of c.args.format) _ _ c.in_ok-unit.ensures.passes) in
    let w3 = went_then _ _ _ w2 (went_of 1 _ _ c.in_ok-address_size.ensures.passes) in
    let w4 = went_then _ _ _ w3 (went_of 1 _ _ c.in_ok-selector_size.ensures.passes) in
    let w5 = went_then _ _ _ w4 (went_of c.padding.result _ _ c.in_ok-skip.ensures.ok) in
    let n1 = number_took big 2 _ _ _ refl c.in_ok-version.ensures.ok in
    let n2 = number_took big (word_of c.args.format) _ _ _ (went_order _ _ w1) c.in_ok-unit.ensures.ok in
    let n3 = number_took big 1 _ _ _ (went_order _ _ w2) c.in_ok-address_size.ensures.ok in
    let n4 = number_took big 1 _ _ _ (went_order _ _ w3) c.in_ok-selector_size.ensures.ok in
    let zeros = bytes_took c.padding.result (reading c.read_u8-2.new.self) (reading c.skip.new.self) (part c.padding.result (reading c.read_u8-2.new.self)) (g.met.R.Reader.is_reading c.read_u8-2.new.self) refl c.in_ok-skip.ensures.ok in
    let passed = subst (λ (n : ℕ). bytes_read n (left (reading c.read_u8-2.new.self)) ≡ Ok (left (part c.padding.result (reading c.read_u8-2.new.self)), left (reading c.skip.new.self))) c.padding.ensures.is zeros in
    took (ℕ × ℕ) (fields_read big c.args.format) _ _ _ w5
    (whole_fields big c.args.format _ _ _ _ _ _ _ _ _ _ _ n1 c.if-version-ne2.false n2 n3 (sym c.is_width.ensures ∙ c.if-not-is_width.false) n4 c.if-selector_size-ne0.false passed)
