use Rattle.std.proofs.Common.{◌≡◌, ◌∙◌, sym, ap, subst, ℕ, ◌≤◌, ◌^◌, Bool, true, false, arith, List, Option, Some, Result, Ok, Err, IfOk, IfErr, IsTrue, IsFalse}
use Rattle.std.proofs.lemmas.Bool.{or_parts}
use Rattle.std.proofs.lemmas.Bool.Decides.{nat_tests}
use Rattle.std.proofs.lemmas.Result.{err_from_is_err_and}
use Rattle.std.specs.Prelude.{nat_le, ◌||◌, refl}
use Rattle.dw_base.specs.declared.common.Encoding.{Encoding}
use Rattle.dw_base.specs.declared.error.Error.{Error}
use Rattle.dw_base.specs.declared.error.Error.TheVariants as errors
use Rattle.dw_expr.specs.Trees.{Node}
use Rattle.dw_expr.specs.Causes.{length_fails, size_fails}
use Rattle.dw_expr.specs.Spelling.{expression_size}
use Rattle.dw_expr.proofs.Placing.{size_same, size_grows, counted_grows, unplaced_large}
use Rattle.dw_entries.specs.Content.{counted}
use Rattle.dw_entries.specs.Values.{KeepsPlaces, ExpressionUnsized}
use Rattle.dw_entries.proofs.value.expression_size.Goals as goal

-- a number that is no length of 64 bits
long : (n : ℕ) → IsTrue (nat_le (2 ^ 64) n) → 2 ^ 64 ≤ n
long n h = grind (arith, nat_tests, h)

-- why an expression has no size, wherever entries without a place come to stand
unsized : (e : Encoding) (known : ℕ → Option ℕ) (ns : List Node) (err : Error) → IsTrue (size_fails e (Some known) ns err) → ExpressionUnsized e known ns err
unsized e known ns errors.ValueTooLarge h =
    λ place keeps.
    let large : 2 ^ 64 ≤ expression_size e known ns = long (expression_size e known ns) (first _ _ h (unplaced_large e known ns)) in
    omega (arith, large, size_grows e known place keeps ns, counted_grows (expression_size e known ns) (expression_size e place ns) (size_grows e known place keeps ns))
  where
    first : (a b : Bool) → IsTrue (a || b) → IsFalse b → IsTrue a
    first true b h k = refl
    first false b h k = absurd (let x : true ≡ false = sym h ∙ k in cc)
unsized e known ns err h = h

pub returns-in_err-size-clause-err : goal.returns-in_err-size-clause-err
returns-in_err-size-clause-err g c =
    let e = c.args.encoding in
    let known = g.P.EntryPlaces.places c.args.places.now in
    let p = err_from_is_err_and c.from_residual.result c.from_residual.ensures.1 in
    subst (λ r. IfErr r (ExpressionUnsized e known c.args.expression.now)) (sym (p.1 ∙ ap Err p.2)) (unsized e known c.args.expression.now c.in_err-size.field-0.0 c.in_err-size.ensures.err)

-- a size is the same wherever further entries come to stand
same_size : (e : Encoding) (known place : ℕ → Option ℕ) (ns : List Node) → KeepsPlaces known place → ((err : Error) → IsFalse (size_fails e (Some known) ns err)) → expression_size e known ns ≡ expression_size e place ns
same_size e known place ns keeps sound =
    size_same e known place keeps ns (or_parts (length_fails (expression_size e known ns) errors.UnsupportedExpressionForwardReference) _ (sound errors.UnsupportedExpressionForwardReference)).1

ok_more : (r : Result ℕ Error) (P Q : ℕ → Type 0) → ((n : ℕ) → P n → Q n) → IfOk r P → IfOk r Q
ok_more (Ok n) P Q f h = f n h
ok_more (Err e) P Q f h = tt

err_more : (r : Result ℕ Error) (P Q : Error → Type 0) → ((e : Error) → P e → Q e) → IfErr r P → IfErr r Q
err_more (Ok n) P Q f h = tt
err_more (Err e) P Q f h = f e h

pub returns-clause-ok : goal.returns-clause-ok
returns-clause-ok g c =
    let e = c.args.encoding in
    let known = g.P.EntryPlaces.places c.args.places.now in
    let ns = c.args.expression.now in
    ok_more c.counted_size.result (λ n. n ≡ counted c.in_ok-size.size) (λ n. (place : ℕ → Option ℕ) → KeepsPlaces known place → n ≡ counted (expression_size e place ns))
    (λ n is place keeps. is ∙ ap counted (c.in_ok-size.ensures.ok ∙ same_size e known place ns keeps c.in_ok-size.ensures.sound)) c.counted_size.ensures.ok

-- bytes that are no number of 64 bits with their number before them
too_long : (e : Encoding) (known : ℕ → Option ℕ) (ns : List Node) (err : Error) → err ≡ errors.ValueTooLarge → ((place : ℕ → Option ℕ) → KeepsPlaces known place → 2 ^ 64 ≤ counted (expression_size e place ns)) → ExpressionUnsized e known ns err
too_long e known ns err is h = subst (λ x. ExpressionUnsized e known ns x) (sym is) h

pub returns-clause-err : goal.returns-clause-err
returns-clause-err g c =
    let e = c.args.encoding in
    let known = g.P.EntryPlaces.places c.args.places.now in
    let ns = c.args.expression.now in
    let full : Error → Type 0 = λ x. (x ≡ errors.ValueTooLarge) × (2 ^ 64 ≤ counted c.in_ok-size.size) in
    err_more c.counted_size.result full (ExpressionUnsized e known ns)
    (λ x h. too_long e known ns x h.0 (λ place keeps.
    let size = ap counted (c.in_ok-size.ensures.ok ∙ same_size e known place ns keeps c.in_ok-size.ensures.sound) in
    omega (arith, h.1, size))) c.counted_size.ensures.err

pub returns-in_err-size-clause-ok : goal.returns-in_err-size-clause-ok
returns-in_err-size-clause-ok g c = rw (err_from_is_err_and c.from_residual.result c.from_residual.ensures.1).1 tt

pub returns-in_err-size-clause-sound : goal.returns-in_err-size-clause-sound
returns-in_err-size-clause-sound g c = rw (err_from_is_err_and c.from_residual.result c.from_residual.ensures.1).1 tt
