-- A table by its version.
use Rattle.std.specs.Prelude.{◌≡◌, ℕ, zero, suc, ◌<◌, ◌≤◌, Bool, true, false, not, ◌&&◌, ◌==◌, nat_le, List, [], ◌∷◌, length, Option, refl}
use Rattle.std.proofs.Common.{sym, ◌∙◌, subst, arith, true≢false}
use Rattle.std.proofs.lemmas.Bool.{le-leb, eq-eqb, ne_eqb, or_right}
use Rattle.dw_base.specs.declared.common.Encoding.{Encoding}
use Rattle.dw_base.specs.declared.error.Error.{Error}
use Rattle.dw_base.specs.declared.error.Error.TheVariants as errors
use Rattle.dw_writer.specs.Contents.{Meaning}
use Rattle.dw_writer.specs.Drafts.{Drafts}
use Rattle.dw_writer.specs.declared.fixup.DebugInfoFixup.{DebugInfoFixup}
use Rattle.dw_writer.proofs.WriteLaws.{Drafts-nothing}
use Rattle.dw_lists.specs.Parts.{Part}
use Rattle.dw_lists.specs.Items.{is_five}
use Rattle.dw_lists.specs.Tables.{new_table, old_table, table_by, table_draft, new_offsets, old_offsets, offsets_by, offsets_from}
use Rattle.dw_lists.specs.Causes.{Refused, Is, IsNone, is_supported, version_fails, table_fails_by, table_fails}
use Rattle.dw_lists.proofs.Causes.{neither_cause}
use Rattle.dw_lists.proofs.Refusals.{weaker}

pub five_is : (e : Encoding) → e.version ≡ 5 → is_five e ≡ true
five_is e v = eq-eqb e.version 5 v

pub four_is : (e : Encoding) → e.version ≤ 4 → is_five e ≡ false
four_is e v = ne_eqb e.version 5 (λ five. omega (arith, five, v))

both_true : (a b : Bool) → a ≡ true → b ≡ true → (a && b) ≡ true
both_true true true h k = refl
both_true false b h k = absurd cc
both_true true false h k = absurd cc

supported : (v : ℕ) → 2 ≤ v → v ≤ 5 → is_supported v ≡ true
supported v low high = both_true (nat_le 2 v) (nat_le v 5) (le-leb 2 v low) (le-leb v 5 high)

and_none : (a b : Bool) → b ≡ true → (a && not b) ≡ false
and_none true true h = refl
and_none false true h = refl
and_none a false h = absurd cc

version_none : (v : ℕ) → 2 ≤ v → v ≤ 5 → IsNone (version_fails v)
version_none v low high (errors.UnsupportedVersion n) = and_none (n == v) (is_supported v) (supported v low high)
version_none v low high err = refl

pub some_of : (n : ℕ) → (n == 0) ≡ false → 0 < n
some_of zero h = absurd cc
some_of (suc n) h = omega arith

pub none_of : (n : ℕ) → (n == 0) ≡ true → n ≡ 0
none_of zero h = refl
none_of (suc n) h = absurd (true≢false (sym h ∙ ne_eqb (suc n) 0 (λ z. omega (arith, z))))

module _ (loc : Bool) (e : Encoding) (place : ℕ → Option ℕ) where
  pub new_table_is : is_five e ≡ true → (xs : List (List Part)) → 0 < length xs → new_table loc e place xs ≡ table_draft loc e place xs
  new_table_is five [] some = absurd (omega arith)
  new_table_is five (x ∷ xs) some = subst (λ b. new_table loc e place (x ∷ xs) ≡ table_by loc e place b (x ∷ xs)) (sym five) refl

  pub old_table_is : is_five e ≡ false → (xs : List (List Part)) → 0 < length xs → old_table loc e place xs ≡ table_draft loc e place xs
  old_table_is four [] some = absurd (omega arith)
  old_table_is four (x ∷ xs) some = subst (λ b. old_table loc e place (x ∷ xs) ≡ table_by loc e place b (x ∷ xs)) (sym four) refl

  pub new_offsets_is : is_five e ≡ true → (at : ℕ) (xs : List (List Part)) → 0 < length xs → new_offsets loc e place at xs ≡ offsets_from loc e place at xs
  new_offsets_is five at [] some = absurd (omega arith)
  new_offsets_is five at (x ∷ xs) some = subst (λ b. new_offsets loc e place at (x ∷ xs) ≡ offsets_by loc e place b at (x ∷ xs)) (sym five) refl

  pub old_offsets_is : is_five e ≡ false → (at : ℕ) (xs : List (List Part)) → 0 < length xs → old_offsets loc e place at xs ≡ offsets_from loc e place at xs
  old_offsets_is four at [] some = absurd (omega arith)
  old_offsets_is four at (x ∷ xs) some = subst (λ b. old_offsets loc e place at (x ∷ xs) ≡ offsets_by loc e place b at (x ∷ xs)) (sym four) refl

module _ (loc : Bool) (e : Encoding) (known : Option (ℕ → Option ℕ)) (base five : Bool) (is : is_five e ≡ five) (plain : Bool) where
  pub table_none : 2 ≤ e.version → e.version ≤ 5 → (xs : List (List Part)) → 0 < length xs → IsNone (table_fails_by loc e known five base plain xs) → IsNone (table_fails loc e known base plain xs)
  table_none low high [] some h = absurd (omega arith)
  table_none low high (x ∷ xs) some h =
      neither_cause (version_fails e.version) (table_fails_by loc e known (is_five e) base plain (x ∷ xs))
      (version_none e.version low high)
      (subst (λ b. IsNone (table_fails_by loc e known b base plain (x ∷ xs))) (sym is) h)

  pub table_refused : (old new : Meaning) (xs : List (List Part)) → 0 < length xs → (err : Error) → Refused old new (Is (table_fails_by loc e known five base plain xs)) err → Refused old new (Is (table_fails loc e known base plain xs)) err
  table_refused old new [] some err h = absurd (omega arith)
  table_refused old new (x ∷ xs) some err h =
      weaker old new (Is (table_fails_by loc e known five base plain (x ∷ xs))) (Is (table_fails loc e known base plain (x ∷ xs)))
      (λ k cause. or_right (version_fails e.version k) (table_fails_by loc e known (is_five e) base plain (x ∷ xs) k)
      (subst (λ b. Is (table_fails_by loc e known b base plain (x ∷ xs)) k) (sym is) cause)) err h

-- a table without lists
module _ (loc : Bool) (e : Encoding) (place : ℕ → Option ℕ) where
  pub none_written : (m : Meaning) (x : List DebugInfoFixup) (xs : List (List Part)) → length xs ≡ 0 → Drafts m m x x (table_draft loc e place xs)
  none_written m x [] h = Drafts-nothing m x
  none_written m x (y ∷ ys) h = absurd (omega arith)

-- nothing refuses it
pub none_refused : (loc : Bool) (e : Encoding) (known : Option (ℕ → Option ℕ)) (base plain : Bool) (xs : List (List Part)) → length xs ≡ 0 → IsNone (table_fails loc e known base plain xs)
none_refused loc e known base plain [] h = λ err. refl
none_refused loc e known base plain (y ∷ ys) h = absurd (omega arith)

-- what a match on the version tells
pub not_five : (e : Encoding) → (e.version ≡ 5 → ⊥) → is_five e ≡ false
not_five e h = ne_eqb e.version 5 h
