use Rattle.std.proofs.Common.{◌≡◌, ◌∙◌, sym, subst, Bool, Err, refl, arith}
use Rattle.std.proofs.lemmas.Result.{err_from_is_err_and, IfOk-weaker, IfErr-weaker}
use Rattle.dw_base.specs.Headers.{Header}
use Rattle.dw_read.specs.Reading.{left}
use Rattle.dw_read.specs.Took.{Took}
use Rattle.dw_read.specs.Headers.{old_fields_read, new_fields_read, fields_read}
use Rattle.dw_read.proofs.Chain.{took, went, went_then, went_order, number_took, number_not, went_of}
use Rattle.dw_read.specs.Fields.{header_of}
use Rattle.dw_read.proofs.HeaderRead.{no_version, version_5, version_2_to_4, unknown_version}
use Rattle.dw_read.proofs.header.read_fields.Goals as goal

pub returns-in_err-version-clause-err : goal.returns-in_err-version-clause-err
returns-in_err-version-clause-err g c =
    let big = (g.R.Reader.reading c.args.input.now).is_big in
    let p = err_from_is_err_and c.from_residual.result c.from_residual.ensures.1 in
    rw (p.1, p.2) (no_version big c.args.format _ _ (number_not big 2 _ _ refl c.in_err-version.ensures.err))

pub returns-then-version-eq5-clause-ok : goal.returns-then-version-eq5-clause-ok
returns-then-version-eq5-clause-ok g c =
    let big = (g.R.Reader.reading c.args.input.now).is_big in
    let w1 = went_of 2 _ _ c.in_ok-version.ensures.passes in
    let n1 = number_took big 2 _ _ _ refl c.in_ok-version.ensures.ok in
    let o = went_order _ _ w1 in
    IfOk-weaker c.read_new_fields.result _ _ (λ f h.
    let t = subst (λ (b : Bool). Took Header (new_fields_read b c.args.format) (g.R.Reader.reading c.read_u16.new.self) (g.R.Reader.reading c.read_new_fields.new.input) (header_of f)) o h in
    took Header (fields_read big c.args.format) _ _ _ (went_then _ _ _ w1 (went Header (new_fields_read big c.args.format) _ _ _ t)) (version_5 big c.args.format _ _ _ n1 c.if-version-eq5.true ∙ t.value)) c.read_new_fields.ensures.ok

pub returns-then-version-eq5-clause-err : goal.returns-then-version-eq5-clause-err
returns-then-version-eq5-clause-err g c =
    let big = (g.R.Reader.reading c.args.input.now).is_big in
    let w1 = went_of 2 _ _ c.in_ok-version.ensures.passes in
    let n1 = number_took big 2 _ _ _ refl c.in_ok-version.ensures.ok in
    let o = went_order _ _ w1 in
    IfErr-weaker c.read_new_fields.result _ _ (λ e h.
    version_5 big c.args.format _ _ _ n1 c.if-version-eq5.true ∙ subst (λ (b : Bool). new_fields_read b c.args.format (left (g.R.Reader.reading c.read_u16.new.self)) ≡ Err e) o h) c.read_new_fields.ensures.err

pub returns-then-not-is_old_version-clause-err : goal.returns-then-not-is_old_version-clause-err
returns-then-not-is_old_version-clause-err g c =
    let big = (g.R.Reader.reading c.args.input.now).is_big in
    let w1 = went_of 2 _ _ c.in_ok-version.ensures.passes in
    let n1 = number_took big 2 _ _ _ refl c.in_ok-version.ensures.ok in
    unknown_version big c.args.format _ _ _ n1 (omega arith) (sym c.is_old_version.ensures ∙ c.if-not-is_old_version.true)

pub returns-clause-ok : goal.returns-clause-ok
returns-clause-ok g c =
    let big = (g.R.Reader.reading c.args.input.now).is_big in
    let w1 = went_of 2 _ _ c.in_ok-version.ensures.passes in
    let n1 = number_took big 2 _ _ _ refl c.in_ok-version.ensures.ok in
    let o = went_order _ _ w1 in
    let v = version_2_to_4 big c.args.format _ _ _ n1 (omega arith) (sym c.is_old_version.ensures ∙ c.if-not-is_old_version.false) in
    IfOk-weaker c.read_old_fields.result _ _ (λ f h.
    let t = subst (λ (b : Bool). Took Header (old_fields_read b c.args.format c.in_ok-version.version) (g.R.Reader.reading c.read_u16.new.self) (g.R.Reader.reading c.read_old_fields.new.input) (header_of f)) o h in
    took Header (fields_read big c.args.format) _ _ _ (went_then _ _ _ w1 (went Header (old_fields_read big c.args.format c.in_ok-version.version) _ _ _ t)) (v ∙ t.value)) c.read_old_fields.ensures.ok

pub returns-clause-err : goal.returns-clause-err
returns-clause-err g c =
    let big = (g.R.Reader.reading c.args.input.now).is_big in
    let w1 = went_of 2 _ _ c.in_ok-version.ensures.passes in
    let n1 = number_took big 2 _ _ _ refl c.in_ok-version.ensures.ok in
    let o = went_order _ _ w1 in
    let v = version_2_to_4 big c.args.format _ _ _ n1 (omega arith) (sym c.is_old_version.ensures ∙ c.if-not-is_old_version.false) in
    IfErr-weaker c.read_old_fields.result _ _ (λ e h.
    v ∙ subst (λ (b : Bool). old_fields_read b c.args.format c.in_ok-version.version (left (g.R.Reader.reading c.read_u16.new.self)) ≡ Err e) o h) c.read_old_fields.ensures.err

pub returns-in_err-version-clause-ok : goal.returns-in_err-version-clause-ok
returns-in_err-version-clause-ok g c = rw (err_from_is_err_and c.from_residual.result c.from_residual.ensures.1).1 tt

pub returns-then-not-is_old_version-clause-ok : goal.returns-then-not-is_old_version-clause-ok
returns-then-not-is_old_version-clause-ok g c = tt
