use Rattle.std.proofs.Common.{◌≡◌, ◌∙◌, subst, Bool, Ok, Err, inl, inr, ⊎_elim, arith, ◌<◌, length}
use Rattle.std.proofs.lemmas.Result.{err_from_is_err_and}
use Rattle.dw_read.specs.Reading.{left}
use Rattle.dw_read.proofs.Lefts.{same_order}
use Rattle.dw_read.specs.declared.error.ReadError.TheVariants.{NoMemory}
use Rattle.dw_arange_table.specs.Reading.{set_read}
use Rattle.dw_arange_table.proofs.ReadSteps.{sets_all, sets_err, sets_more}
use Rattle.dw_arange_table.proofs.read.read_sets.Goals as goal

pub returns-in_err-set-clause-err : goal.returns-in_err-set-clause-err
returns-in_err-set-clause-err g c =
    let reading = g.R.Reader.reading in
    let now = reading c.more.input in
    let some : 0 < length (left now) = omega (arith, c.len.ensures, c.more-test.true) in
    let p = err_from_is_err_and c.from_residual.result c.from_residual.ensures.1 in
    rw (p.1, p.2)
    (⊎_elim (λ (full : c.in_err-set.field-0.0 ≡ NoMemory). inl full)
    (λ (why : set_read now.is_big (left now) ≡ Err c.in_err-set.field-0.0).
    inr (sets_err _ _ _ _ _ c.more.invariant.so_far some (subst (λ (big : Bool). set_read big (left now) ≡ Err c.in_err-set.field-0.0) c.more.invariant.order why)))
    c.in_err-set.ensures.err)

pub more-preserved : goal.more-preserved
more-preserved g c =
    let reading = g.R.Reader.reading in
    let now = reading c.more.input in
    let some : 0 < length (left now) = omega (arith, c.len.ensures, c.more-test.true) in
    let set = c.in_ok-set.ensures.ok in
    let here = subst (λ (big : Bool). set_read big (left now) ≡ Ok (c.in_ok-set.set, left (reading c.read_set.new.input))) c.more.invariant.order set.value in
    record {
      so_far = sets_more _ _ _ _ _ _ _ c.more.invariant.so_far some here c.in_ok-set.ensures.shorter c.in_ok-push.ensures.items;
      order = same_order set.count _ _ set.passes ∙ c.more.invariant.order;
    }

pub returns-clause-ok : goal.returns-clause-ok
returns-clause-ok g c =
    sets_all _ _ _ _ c.more.invariant.so_far (omega (arith, c.len.ensures, c.more-test.false))
