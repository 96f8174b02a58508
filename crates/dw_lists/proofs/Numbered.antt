-- A table that a plain writer took has no symbols.
use Rattle.std.specs.Prelude.{◌≡◌, ℕ, Bool, true, false, ◌||◌, List, [], ◌∷◌, Option, Some, None, All}
use Rattle.std.proofs.Common.{subst, true≢false}
use Rattle.std.proofs.lemmas.List.Elements.{All-nil, All-cons}
use Rattle.dw_base.specs.declared.common.Encoding.{Encoding}
use Rattle.dw_base.specs.declared.error.Error.TheVariants as errors
use Rattle.dw_base.specs.declared.address.Address.{Address}
use Rattle.dw_base.specs.declared.address.Address.TheVariants.{Constant, Symbol}
use Rattle.dw_lists.specs.declared.range.Range.{Range}
use Rattle.dw_lists.specs.declared.range.Range.TheVariants as built
use Rattle.dw_lists.specs.Parts.{Part}
use Rattle.dw_lists.specs.Items.{is_five}
use Rattle.dw_lists.specs.Texts.{plus}
use Rattle.dw_lists.specs.Tables.{IsNumber, IsNumbered, AreNumbered}
use Rattle.dw_lists.specs.Causes.{IsNone, width_fails, address_fails, end_fails, form_fails, numbers_fail, old_span_fails, new_fails, new_span_fails, located_fails, old_fails, new_part_fails, old_list_fails, new_list_fails, list_fails, lists_fail, header_fails, version_fails, table_fails_by, table_fails, is_base}
use Rattle.dw_lists.proofs.Causes.{first_none, second_none}

no_symbol : (w : ℕ) (a : Address) → IsNone (address_fails true w a) → IsNumber a
no_symbol w (Constant n) h = tt
no_symbol w (Symbol s a) h = absurd (true≢false (h errors.InvalidAddress))

old_numbered : (w : ℕ) (r : Range) → IsNone (numbers_fail true w r) → IsNumbered (Some r)
old_numbered w (built.BaseAddress a) h = no_symbol w a (second_none (width_fails w) (address_fails true w a) h)
old_numbered w (built.OffsetPair m n) h = tt
old_numbered w (built.StartEnd a b) h = (no_symbol w a (first_none (address_fails true w a) (address_fails true w b) h), no_symbol w b (second_none (address_fails true w a) (address_fails true w b) h))
old_numbered w (built.StartLength a k) h =
    no_symbol w a (first_none (address_fails true w a) (address_fails true w (plus a k)) (second_none (end_fails a k) (λ e. address_fails true w a e || address_fails true w (plus a k) e) h))

new_numbered : (w : ℕ) (r : Range) → IsNone (new_fails true w r) → IsNumbered (Some r)
new_numbered w (built.BaseAddress a) h = no_symbol w a h
new_numbered w (built.OffsetPair m n) h = tt
new_numbered w (built.StartEnd a b) h = (no_symbol w a (first_none (address_fails true w a) (address_fails true w b) h), no_symbol w b (second_none (address_fails true w a) (address_fails true w b) h))
new_numbered w (built.StartLength a k) h = no_symbol w a h

old_span : (base : Bool) (w : ℕ) (r : Option Range) → IsNone (old_span_fails base true w r) → IsNumbered r
old_span base w None h = tt
old_span base w (Some r) h = old_numbered w r (second_none (form_fails base w r) (numbers_fail true w r) h)

new_span : (w : ℕ) (r : Option Range) → IsNone (new_span_fails true w r) → IsNumbered r
new_span w None h = tt
new_span w (Some r) h = new_numbered w r h

module _ (e : Encoding) (known : Option (ℕ → Option ℕ)) where
  list_numbered : (five base : Bool) (ps : List Part) → IsNone (list_fails e known true five base ps) → AreNumbered ps
  list_numbered five base [] h = tt
  list_numbered true base (p ∷ ps) h = (
    new_span e.address_size p.range (first_none (new_span_fails true e.address_size p.range) (located_fails e known true true p.expression) (first_none (new_part_fails e known true p) (new_list_fails e known true ps) h)),
    list_numbered true base ps (second_none (new_part_fails e known true p) (new_list_fails e known true ps) h),
  )
  list_numbered false base (p ∷ ps) h =
      let more = old_list_fails e known true (base || is_base p.range) ps in (
        old_span base e.address_size p.range (first_none (old_span_fails base true e.address_size p.range) (located_fails e known true false p.expression) (first_none (old_fails e known true base p) more h)),
        list_numbered false (base || is_base p.range) ps (second_none (old_fails e known true base p) more h),
      )

  lists_numbered : (five base : Bool) (xs : List (List Part)) → IsNone (lists_fail e known true five base xs) → All AreNumbered xs
  lists_numbered five base [] h = All-nil AreNumbered
  lists_numbered five base (x ∷ xs) h =
      All-cons AreNumbered x xs (list_numbered five base x (first_none (list_fails e known true five base x) (lists_fail e known true five base xs) h))
      (lists_numbered five base xs (second_none (list_fails e known true five base x) (lists_fail e known true five base xs) h))

  version_numbered : (loc five base : Bool) (xs : List (List Part)) → IsNone (table_fails_by loc e known five base true xs) → All AreNumbered xs
  version_numbered loc true base xs h = lists_numbered true base xs (second_none (header_fails loc e known xs) (lists_fail e known true true base xs) h)
  version_numbered loc false base xs h = lists_numbered false base xs h

  pub table_numbered : (loc base plain : Bool) (xs : List (List Part)) → IsNone (table_fails loc e known base plain xs) → plain ≡ true → All AreNumbered xs
  table_numbered loc base plain [] h is = All-nil AreNumbered
  table_numbered loc base plain (x ∷ xs) h is =
      version_numbered loc (is_five e) base (x ∷ xs)
      (subst (λ p. IsNone (table_fails_by loc e known (is_five e) base p (x ∷ xs))) is
      (second_none (version_fails e.version) (table_fails_by loc e known (is_five e) base plain (x ∷ xs)) h))
