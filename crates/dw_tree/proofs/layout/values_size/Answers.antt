use Rattle.std.proofs.Common.{◌≡◌, ◌∙◌, sym, ap, subst, Result, Err, IfErr, ℕ, ◌||◌, ◌+◌, ◌<◌, ◌≤◌, ◌^◌, List, length, drop, get_or, arith}
use Rattle.std.specs.Prelude.{Option, IsFalse}
use Rattle.std.proofs.lemmas.Bool.{or_left}
use Rattle.std.proofs.lemmas.List.{at_drop_more, at_drop_all}
use Rattle.std.proofs.lemmas.Result.{err_from_is_err_and}
use Rattle.dw_base.specs.declared.common.Encoding.{Encoding}
use Rattle.dw_base.specs.declared.error.Error.{Error}
use Rattle.dw_base.specs.declared.error.Error.TheVariants as errors
use Rattle.dw_entries.specs.declared.attribute.Attribute.{Attribute}
use Rattle.dw_entries.specs.Values.{operand_size, value_unplaced, KeepsPlaces, SizeRefused}
use Rattle.dw_tree.specs.Early.{attributes_unplaced, ValuesUnsized}
use Rattle.dw_tree.specs.Laid.{values_size}
use Rattle.dw_tree.specs.Places.{known_at}
use Rattle.dw_tree.proofs.layout.values_size.Goals as goal

err_is : (r : Result ℕ Error) (F : Error → Type 0) (err : Error) → r ≡ Err err → F err → IfErr r F
err_is r F err is h = subst (λ (q : Result ℕ Error). IfErr q F) (sym is) h

module _ (e : Encoding) (known : ℕ → Option ℕ) (xs : List Attribute) (i : ℕ) (x : Attribute) (below : i < length xs) (at : x ≡ get_or xs i x) where
  -- the sizes from an attribute on
  size_more : (place : ℕ → Option ℕ) → values_size e place (drop i xs) ≡ operand_size e place x.value + values_size e place (drop (i + 1) xs)
  size_more place = at_drop_more (values_size e place) xs i x below ∙ ap (λ (a : Attribute). operand_size e place a.value + values_size e place (drop (i + 1) xs)) (sym at)

  unplaced_more : (err : Error) → attributes_unplaced e known (drop i xs) err ≡ (value_unplaced e known x.value err || attributes_unplaced e known (drop (i + 1) xs) err)
  unplaced_more err =
      at_drop_more (λ l. attributes_unplaced e known l err) xs i x below
      ∙ ap (λ (a : Attribute). value_unplaced e known a.value err || attributes_unplaced e known (drop (i + 1) xs) err) (sym at)

  -- a value without a size is one of all
  unsized : (sum : ℕ) → ((place : ℕ → Option ℕ) → KeepsPlaces known place → sum + values_size e place (drop i xs) ≡ values_size e place xs) →
      ((err : Error) → attributes_unplaced e known (drop i xs) err ≡ attributes_unplaced e known xs err) → (err : Error) → SizeRefused e known x.value err → ValuesUnsized e known xs err
  unsized sum total same errors.ValueTooLarge h = λ place keeps. omega (arith, total place keeps, size_more place, h place keeps)
  unsized sum total same err h = sym (same err) ∙ unplaced_more err ∙ or_left (value_unplaced e known x.value err) _ h

large : (e : Encoding) (known : ℕ → Option ℕ) (xs : List Attribute) (err : Error) → err ≡ errors.ValueTooLarge → ((place : ℕ → Option ℕ) → KeepsPlaces known place → 2 ^ 64 ≤ values_size e place xs) → ValuesUnsized e known xs err
large e known xs err is h = subst (λ x. ValuesUnsized e known xs x) (sym is) h

pub returns-in_err-more-clause-err : goal.returns-in_err-more-clause-err
returns-in_err-more-clause-err c =
    let e = c.args.encoding in
    let known = known_at c.args.places.now in
    let xs = c.args.attributes.now in
    let i = c.loop-attribute.attribute-index in
    let x = c.attribute-item.result in
    let inv = c.loop-attribute.invariant in
    let p = err_from_is_err_and c.from_residual.result c.from_residual.ensures.1 in
    let why : SizeRefused e known x.value c.in_err-more.field-0.0 = rw c.get.ensures at c.in_err-more.ensures.err in
    err_is _ (ValuesUnsized e known xs) _ (p.1 ∙ ap Err p.2) (unsized e known xs i x c.loop-attribute-test.true c.attribute-item.is c.loop-attribute.size inv.0 inv.1 c.in_err-more.field-0.0 why)

pub returns-in_err-size-clause-err : goal.returns-in_err-size-clause-err
returns-in_err-size-clause-err c =
    let e = c.args.encoding in
    let known = known_at c.args.places.now in
    let xs = c.args.attributes.now in
    let i = c.loop-attribute.attribute-index in
    let x = c.attribute-item.result in
    let inv = c.loop-attribute.invariant in
    let p = err_from_is_err_and c.from_residual-in_err-size.result c.from_residual-in_err-size.ensures.1 in
    err_is _ (ValuesUnsized e known xs) _ (p.1 ∙ ap Err p.2)
    (large e known xs _ c.in_err-size.ensures.err.0
    (λ place keeps.
    let size : c.in_ok-more.more ≡ operand_size e place x.value = rw c.get.ensures at c.in_ok-more.ensures.ok place keeps in
    omega (arith, inv.0 place keeps, size_more e known xs i x c.loop-attribute-test.true c.attribute-item.is place, size, c.in_err-size.ensures.err.1)))

pub loop-attribute-preserved : goal.loop-attribute-preserved
loop-attribute-preserved c =
    let e = c.args.encoding in
    let known = known_at c.args.places.now in
    let xs = c.args.attributes.now in
    let i = c.loop-attribute.attribute-index in
    let x = c.attribute-item.result in
    let inv = c.loop-attribute.invariant in
    let sound : (err : Error) → IsFalse (value_unplaced e known x.value err) = rw c.get.ensures at c.in_ok-more.ensures.sound in (
      λ place keeps.
          let size : c.in_ok-more.more ≡ operand_size e place x.value = rw c.get.ensures at c.in_ok-more.ensures.ok place keeps in
          omega (arith, inv.0 place keeps, size_more e known xs i x c.loop-attribute-test.true c.attribute-item.is place, size, c.in_ok-size.ensures.ok),
      λ err.
          sym (ap (λ b. b || attributes_unplaced e known (drop (i + 1) xs) err) (sound err))
          ∙ sym (unplaced_more e known xs i x c.loop-attribute-test.true c.attribute-item.is err)
          ∙ inv.1 err,
    )

pub returns-clause-sound : goal.returns-clause-sound
returns-clause-sound c =
    λ err.
    sym (c.loop-attribute.invariant.1 err)
    ∙ at_drop_all (λ (l : List Attribute). attributes_unplaced c.args.encoding (known_at c.args.places.now) l err) c.args.attributes.now c.loop-attribute.attribute-index c.loop-attribute-test.false
