use Rattle.dw_base.specs.Numbers.{length_size}
use Rattle.std.proofs.Common.{◌≡◌, ◌∙◌, ap, subst, Bool, Ok, Err, inr, inl, ◌+◌, arith}
use Rattle.std.proofs.lemmas.Result.{err_from_is_err_and}
use Rattle.dw_read.specs.Reading.{Reading, left}
use Rattle.dw_read.proofs.Lefts.{same_order, passes_then, shorter}
use Rattle.dw_read.proofs.HeaderParts.{bytes_took}
use Rattle.dw_arange_table.specs.Reading.{fields_read, ranges_in}
use Rattle.dw_arange_table.proofs.ReadSteps.{length_positive, length_took, set_no_length, set_cut, set_no_fields, whole_set}
use Rattle.dw_arange_table.proofs.read.read_set.Goals as goal

pub returns-in_err-length-clause-err : goal.returns-in_err-length-clause-err
returns-in_err-length-clause-err g c =
    let p = err_from_is_err_and c.from_residual.result c.from_residual.ensures.1 in
    rw (p.1, p.2) (inr (set_no_length _ _ _ c.in_err-length.ensures.err.reason))

pub returns-in_err-content-clause-err : goal.returns-in_err-content-clause-err
returns-in_err-content-clause-err g c =
    let reading = g.R.Reader.reading in
    let p = err_from_is_err_and c.from_residual-in_err-content.result c.from_residual-in_err-content.ensures.1 in
    let start = length_took (reading c.args.input.now) (reading c.read_initial_length.new.self) c.in_ok-length.format c.in_ok-length.length c.in_ok-length.ensures.ok in
    rw (p.1, p.2) (inr (set_cut _ _ _ _ _ _ start c.in_err-content.ensures.err.reason))

pub returns-in_err-unit-clause-err : goal.returns-in_err-unit-clause-err
returns-in_err-unit-clause-err g c =
    let reading = g.R.Reader.reading in
    let p = err_from_is_err_and c.from_residual-in_err-unit.result c.from_residual-in_err-unit.ensures.1 in
    let old : Reading = reading c.args.input.now in
    let start = length_took old (reading c.read_initial_length.new.self) c.in_ok-length.format c.in_ok-length.length c.in_ok-length.ensures.ok in
    let content = bytes_took c.in_ok-length.length _ _ _ (g.met.R.Reader.is_reading c.read_initial_length.new.self) c.in_ok-content.ensures.part c.in_ok-content.ensures.ok in
    let order : (reading c.in_ok-content.content).is_big ≡ old.is_big = ap (λ (r : Reading). r.is_big) c.in_ok-content.ensures.part ∙ same_order _ _ _ c.in_ok-length.ensures.passes in
    let why = subst (λ (big : Bool). fields_read big c.in_ok-length.format (left (reading c.in_ok-content.content)) ≡ Err c.in_err-unit.field-0.0) order c.in_err-unit.ensures.err in
    rw (p.1, p.2) (inr (set_no_fields _ _ _ _ _ _ _ _ start content why))

pub returns-clause-ok : goal.returns-clause-ok
returns-clause-ok g c =
    let reading = g.R.Reader.reading in
    let old : Reading = reading c.args.input.now in
    let start = length_took old (reading c.read_initial_length.new.self) c.in_ok-length.format c.in_ok-length.length c.in_ok-length.ensures.ok in
    let content = bytes_took c.in_ok-length.length _ _ _ (g.met.R.Reader.is_reading c.read_initial_length.new.self) c.in_ok-content.ensures.part c.in_ok-content.ensures.ok in
    let order : (reading c.in_ok-content.content).is_big ≡ old.is_big = ap (λ (r : Reading). r.is_big) c.in_ok-content.ensures.part ∙ same_order _ _ _ c.in_ok-length.ensures.passes in
    let fields = subst (λ (big : Bool). fields_read big c.in_ok-length.format (left (reading c.in_ok-content.content)) ≡ Ok ((c.in_ok-unit.unit, c.in_ok-unit.address_size), left (reading c.read_fields.new.input))) order c.in_ok-unit.ensures.ok.value in
    let inner : (reading c.read_fields.new.input).is_big ≡ old.is_big = same_order _ _ _ c.in_ok-unit.ensures.ok.passes ∙ order in
    let ranges : c.in_ok-ranges.ranges.items ≡ ranges_in old.is_big c.in_ok-unit.address_size (left (reading c.read_fields.new.input)) = c.in_ok-ranges.ensures.ok ∙ ap (λ (big : Bool). ranges_in big c.in_ok-unit.address_size (left (reading c.read_fields.new.input))) inner in
    record {
      count = _;
      passes = passes_then _ _ _ _ _ c.in_ok-length.ensures.passes c.in_ok-content.ensures.ok;
      value = rw ranges (whole_set _ _ _ _ _ _ _ _ _ _ start content fields);
    }

pub returns-in_err-ranges-clause-err : goal.returns-in_err-ranges-clause-err
returns-in_err-ranges-clause-err g c =
    let p = err_from_is_err_and c.from_residual-in_err-ranges.result c.from_residual-in_err-ranges.ensures.1 in
    rw (p.1, p.2) (inl c.in_err-ranges.ensures.err)

pub returns-clause-shorter : goal.returns-clause-shorter
returns-clause-shorter g c =
    let reading = g.R.Reader.reading in
    let is = g.met.R.Reader.is_reading in
    let passes = passes_then _ _ _ _ _ c.in_ok-length.ensures.passes c.in_ok-content.ensures.ok in
    let fewer = shorter (length_size c.in_ok-length.format + c.in_ok-length.length) (reading c.args.input.now) (reading c.split.new.self) (is c.args.input.now) (is c.split.new.self) passes in
    let some = length_positive c.in_ok-length.format in
    omega arith
