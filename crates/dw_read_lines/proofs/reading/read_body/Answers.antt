use Rattle.std.proofs.Common.{◌≡◌, ◌∙◌, ap, subst, refl, ℕ, Bool, true, false, rules, Ok}
use Rattle.std.proofs.lemmas.Result.{err_from_is_err_and}
use Rattle.dw_base.specs.Numbers.{word_of}
use Rattle.dw_base.specs.LineReader.{is_line_version}
use Rattle.dw_base.specs.LineMachine.{LineHeader}
use Rattle.dw_read.specs.Reading.{Reading, left}
use Rattle.dw_read.proofs.Chain.{went, went_of, went_then, went_order, number_took, number_not}
use Rattle.dw_read.proofs.HeaderParts.{bytes_took}
use Rattle.dw_read_lines.specs.LineHeaders.{address_size_read, parameters_read, body_read}
use Rattle.dw_read_lines.specs.LineHeaderViews.{parameters_of}
use Rattle.dw_read_lines.proofs.Orders.{took_in, err_in}
use Rattle.dw_read_lines.proofs.reading.read_body.Goals as goal

pub returns-in_err-version-clause-err : goal.returns-in_err-version-clause-err
unfolding body_read
returns-in_err-version-clause-err g c =
    let big = (g.R.Reader.reading c.args.input.now).is_big in
    let p = err_from_is_err_and c.from_residual.result c.from_residual.ensures.1 in
    rw (p.1, p.2, number_not big 2 _ _ refl c.in_err-version.ensures.err) refl

pub returns-then-not-is_line_version-clause-err : goal.returns-then-not-is_line_version-clause-err
unfolding body_read
returns-then-not-is_line_version-clause-err g c =
    let big = (g.R.Reader.reading c.args.input.now).is_big in
    let n1 = number_took big 2 _ _ _ refl c.in_ok-version.ensures.ok in
    let v : is_line_version c.in_ok-version.version ≡ false = search (rules, c.is_line_version.ensures) in
    rw (n1, v) refl

pub returns-in_err-address_size-clause-err : goal.returns-in_err-address_size-clause-err
unfolding body_read
returns-in_err-address_size-clause-err g c =
    let big = (g.R.Reader.reading c.args.input.now).is_big in
    let n1 = number_took big 2 _ _ _ refl c.in_ok-version.ensures.ok in
    let w1 = went_of 2 _ _ c.in_ok-version.ensures.passes in
    let v : is_line_version c.in_ok-version.version ≡ true = search (rules, c.is_line_version.ensures) in
    let e = err_in ℕ (λ (b : Bool). address_size_read b c.in_ok-version.version c.args.address_size) big (g.R.Reader.reading c.read_u16.new.self) _ (went_order _ _ w1) c.in_err-address_size.ensures.err in
    let p = err_from_is_err_and c.from_residual-in_err-address_size.result c.from_residual-in_err-address_size.ensures.1 in
    rw (p.1, p.2, n1, v, e) refl

pub returns-in_err-length-clause-err : goal.returns-in_err-length-clause-err
unfolding body_read
returns-in_err-length-clause-err g c =
    let big = (g.R.Reader.reading c.args.input.now).is_big in
    let n1 = number_took big 2 _ _ _ refl c.in_ok-version.ensures.ok in
    let w1 = went_of 2 _ _ c.in_ok-version.ensures.passes in
    let v : is_line_version c.in_ok-version.version ≡ true = search (rules, c.is_line_version.ensures) in
    let n2 = took_in ℕ (λ (b : Bool). address_size_read b c.in_ok-version.version c.args.address_size) big _ _ _ (went_order _ _ w1) c.in_ok-address_size.ensures.ok in
    let w2 = went_then _ _ _ w1 (went _ _ _ _ _ c.in_ok-address_size.ensures.ok) in
    let e = number_not big (word_of c.args.format) _ _ (went_order _ _ w2) c.in_err-length.ensures.err in
    let p = err_from_is_err_and c.from_residual-in_err-length.result c.from_residual-in_err-length.ensures.1 in
    rw (p.1, p.2, n1, v, n2, e) refl

pub returns-in_err-tables-clause-err : goal.returns-in_err-tables-clause-err
unfolding body_read
returns-in_err-tables-clause-err g c =
    let big = (g.R.Reader.reading c.args.input.now).is_big in
    let n1 = number_took big 2 _ _ _ refl c.in_ok-version.ensures.ok in
    let w1 = went_of 2 _ _ c.in_ok-version.ensures.passes in
    let v : is_line_version c.in_ok-version.version ≡ true = search (rules, c.is_line_version.ensures) in
    let n2 = took_in ℕ (λ (b : Bool). address_size_read b c.in_ok-version.version c.args.address_size) big _ _ _ (went_order _ _ w1) c.in_ok-address_size.ensures.ok in
    let w2 = went_then _ _ _ w1 (went _ _ _ _ _ c.in_ok-address_size.ensures.ok) in
    let n3 = number_took big (word_of c.args.format) _ _ _ (went_order _ _ w2) c.in_ok-length.ensures.ok in
    let p = err_from_is_err_and c.from_residual-in_err-tables.result c.from_residual-in_err-tables.ensures.1 in
    rw (p.1, p.2, n1, v, n2, n3, c.in_err-tables.ensures.err.reason) refl

pub returns-in_err-parameters-clause-err : goal.returns-in_err-parameters-clause-err
unfolding body_read
returns-in_err-parameters-clause-err g c =
    let big = (g.R.Reader.reading c.args.input.now).is_big in
    let n1 = number_took big 2 _ _ _ refl c.in_ok-version.ensures.ok in
    let w1 = went_of 2 _ _ c.in_ok-version.ensures.passes in
    let v : is_line_version c.in_ok-version.version ≡ true = search (rules, c.is_line_version.ensures) in
    let n2 = took_in ℕ (λ (b : Bool). address_size_read b c.in_ok-version.version c.args.address_size) big _ _ _ (went_order _ _ w1) c.in_ok-address_size.ensures.ok in
    let w2 = went_then _ _ _ w1 (went _ _ _ _ _ c.in_ok-address_size.ensures.ok) in
    let n3 = number_took big (word_of c.args.format) _ _ _ (went_order _ _ w2) c.in_ok-length.ensures.ok in
    let w3 = went_then _ _ _ w2 (went_of (word_of c.args.format) _ _ c.in_ok-length.ensures.passes) in
    let n4 = bytes_took _ _ _ _ (g.met.R.Reader.is_reading c.read_word.new.self) c.in_ok-tables.ensures.part c.in_ok-tables.ensures.ok in
    let o = ap (λ (r : Reading). r.is_big) c.in_ok-tables.ensures.part ∙ went_order _ _ w3 in
    let e = err_in (ℕ × LineHeader) (λ (b : Bool). parameters_read b c.in_ok-version.version) big (g.R.Reader.reading c.in_ok-tables.tables) _ o c.in_err-parameters.ensures.err in
    let p = err_from_is_err_and c.from_residual-in_err-parameters.result c.from_residual-in_err-parameters.ensures.1 in
    rw (p.1, p.2, n1, v, n2, n3, n4, e) refl

pub returns-clause-ok : goal.returns-clause-ok
unfolding body_read
returns-clause-ok g c =
    let reading = g.R.Reader.reading in
    let big = (reading c.args.input.now).is_big in
    let n1 = number_took big 2 _ _ _ refl c.in_ok-version.ensures.ok in
    let w1 = went_of 2 _ _ c.in_ok-version.ensures.passes in
    let v : is_line_version c.in_ok-version.version ≡ true = search (rules, c.is_line_version.ensures) in
    let n2 = took_in ℕ (λ (b : Bool). address_size_read b c.in_ok-version.version c.args.address_size) big _ _ _ (went_order _ _ w1) c.in_ok-address_size.ensures.ok in
    let w2 = went_then _ _ _ w1 (went _ _ _ _ _ c.in_ok-address_size.ensures.ok) in
    let n3 = number_took big (word_of c.args.format) _ _ _ (went_order _ _ w2) c.in_ok-length.ensures.ok in
    let w3 = went_then _ _ _ w2 (went_of (word_of c.args.format) _ _ c.in_ok-length.ensures.passes) in
    let n4 = bytes_took _ _ _ _ (g.met.R.Reader.is_reading c.read_word.new.self) c.in_ok-tables.ensures.part c.in_ok-tables.ensures.ok in
    let o = ap (λ (r : Reading). r.is_big) c.in_ok-tables.ensures.part ∙ went_order _ _ w3 in
    let w4 = went_then _ _ _ w3 (went_of _ _ _ c.in_ok-tables.ensures.ok) in
    let d : reading c.duplicate.result ≡ reading c.split.new.self = c.duplicate.ensures in
    let b = ap (λ (r : Reading). r.is_big) d ∙ went_order _ _ w4 in
    let l = ap left d in
    let parameters = c.in_ok-parameters.parameters in
    let t = c.in_ok-parameters.ensures.ok in
    let n5 = subst (λ (x : Bool). parameters_read x c.in_ok-version.version (left (reading c.in_ok-tables.tables)) ≡ Ok (parameters_of reading x parameters, left (reading c.read_parameters.new.input))) o t.value in
    rw (n1, v, n2, n3, n4, n5, b, l) refl

pub returns-clause-order : goal.returns-clause-order
returns-clause-order g c =
    let w1 = went_of 2 _ _ c.in_ok-version.ensures.passes in
    let w2 = went_then _ _ _ w1 (went _ _ _ _ _ c.in_ok-address_size.ensures.ok) in
    let w3 = went_then _ _ _ w2 (went_of (word_of c.args.format) _ _ c.in_ok-length.ensures.passes) in
    let o = ap (λ (r : Reading). r.is_big) c.in_ok-tables.ensures.part ∙ went_order _ _ w3 in
    record { tables = went_order _ _ (went _ _ _ _ _ c.in_ok-parameters.ensures.ok) ∙ o; counts = c.in_ok-parameters.ensures.order ∙ o }
