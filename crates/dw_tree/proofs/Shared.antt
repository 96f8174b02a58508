-- Codes among the shapes of marks: those that were given stay, and each stands for its shape.
use Rattle.std.specs.Prelude.{◌≡◌, ℕ, suc, ◌≤◌, ◌<◌, Bool, true, false, List, [], ◌∷◌, length, Some, if◌then◌else◌, refl}
use Rattle.std.proofs.Common.{sym, ◌∙◌, ap, arith, map, get_or}
use Rattle.std.proofs.lemmas.List.{get_or-map}
use Rattle.dw_base.specs.Abbreviations.{Shape, shape_of_code}
use Rattle.dw_base.specs.Entries.{Mark, Open, Null}
use Rattle.dw_base.specs.declared.common.Encoding.{Encoding}
use Rattle.dw_abbrev.specs.Equal.{shape_eq}
use Rattle.dw_abbrev.specs.EqualLaws.{shape_Decides}
use Rattle.dw_abbrev.specs.Codes.{code_in, with_shape, declarations, KeepsCodes}
use Rattle.dw_abbrev.proofs.CodeLaws.{declared, with_shape-keeps}
use Rattle.dw_entries.specs.Entries.{EntryValue, entry_at}
use Rattle.dw_tree.specs.Shapes.{shape_of_entry}
use Rattle.dw_entries.specs.declared.tree.Item.{Item}
use Rattle.dw_entries.specs.Tree.{mark_of, marks}
use Rattle.dw_tree.specs.Coded.{shapes_of, code_at}
use Rattle.dw_tree.proofs.Marks.{marks-below, mark_at}

code_step : (b : Bool) (n m k : ℕ) → (n ≤ k → m ≡ n) → (if b then 1 else suc n) ≤ suc k → (if b then 1 else suc m) ≡ (if b then 1 else suc n)
code_step true n m k f h = refl
code_step false n m k f h = ap suc (f (omega arith))

kept_step : (b : Bool) (x s : Shape) (xs ys : List Shape) → (code_in xs s ≤ length xs → code_in ys s ≡ code_in xs s) → code_in (x ∷ xs) s ≤ suc (length xs) → code_in (if b then x ∷ xs else x ∷ ys) s ≡ code_in (x ∷ xs) s
kept_step true x s xs ys f h = refl
kept_step false x s xs ys f h = code_step (shape_eq s x) (code_in xs s) (code_in ys s) (length xs) f h

-- the code of a shape that is there stays as another is added
pub code_in-kept : (xs : List Shape) (s t : Shape) → code_in xs s ≤ length xs → code_in (with_shape xs t) s ≡ code_in xs s
code_in-kept [] s t h = absurd (omega arith)
code_in-kept (x ∷ xs) s t h = kept_step (shape_eq t x) x s xs (with_shape xs t) (code_in-kept xs s t) h

own_step : (b : Bool) (x s : Shape) (xs ys : List Shape) → code_in ys s ≡ code_in xs s → code_in (if b then x ∷ xs else x ∷ ys) s ≡ code_in (x ∷ xs) s
own_step true x s xs ys e = refl
own_step false x s xs ys e = ap (λ n. if shape_eq s x then 1 else suc n) e

-- the code of a shape as it is added
pub code_in-own : (xs : List Shape) (s : Shape) → code_in (with_shape xs s) s ≡ code_in xs s
code_in-own [] s = ap (λ b. if b then 1 else 2) ((shape_Decides s s).1 refl)
code_in-own (x ∷ xs) s = own_step (shape_eq s x) x s xs (with_shape xs s) (code_in-own xs s)

within_step : (b : Bool) (n : ℕ) (x : Shape) (xs ys : List Shape) → n ≤ length ys → (if b then 1 else suc n) ≤ length (if b then x ∷ xs else x ∷ ys)
within_step true n x xs ys h = omega arith
within_step false n x xs ys h = omega arith

pub code_in-added : (xs : List Shape) (s : Shape) → code_in xs s ≤ length (with_shape xs s)
code_in-added [] s = omega arith
code_in-added (x ∷ xs) s = within_step (shape_eq s x) (code_in xs s) x xs (with_shape xs s) (code_in-added xs s)

grown_step : (b : Bool) (x : Shape) (xs ys : List Shape) → length xs ≤ length ys → suc (length xs) ≤ length (if b then x ∷ xs else x ∷ ys)
grown_step true x xs ys h = omega arith
grown_step false x xs ys h = omega arith

pub length-with_shape : (xs : List Shape) (s : Shape) → length xs ≤ length (with_shape xs s)
length-with_shape [] s = omega arith
length-with_shape (x ∷ xs) s = grown_step (shape_eq s x) x xs (with_shape xs s) (length-with_shape xs s)

room_step : (b : Bool) (x : Shape) (xs ys : List Shape) → length ys ≤ suc (length xs) → length (if b then x ∷ xs else x ∷ ys) ≤ suc (suc (length xs))
room_step true x xs ys h = omega arith
room_step false x xs ys h = omega arith

pub with_shape-room : (xs : List Shape) (s : Shape) → length (with_shape xs s) ≤ suc (length xs)
with_shape-room [] s = omega arith
with_shape-room (x ∷ xs) s = room_step (shape_eq s x) x xs (with_shape xs s) (with_shape-room xs s)

module _ (e : Encoding) (es : List EntryValue) where
  shapes-kept : (t : List Shape) (ms : List (Mark ℕ)) (s : Shape) → code_in t s ≤ length t → code_in (shapes_of e es t ms) s ≡ code_in t s
  shapes-kept t [] s h = refl
  shapes-kept t (Open i ∷ ms) s h =
      let u = shape_of_entry e (entry_at es i) in
      let same = code_in-kept t s u h in
      shapes-kept (with_shape t u) ms s (omega (arith, same, length-with_shape t u)) ∙ same
  shapes-kept t (Null ∷ ms) s h = shapes-kept t ms s h

  pub shapes-keep : (t : List Shape) (ms : List (Mark ℕ)) → KeepsCodes t (shapes_of e es t ms)
  shapes-keep t [] code s h = h
  shapes-keep t (Open i ∷ ms) code s h =
      let u = shape_of_entry e (entry_at es i) in
      shapes-keep (with_shape t u) ms code s (with_shape-keeps t u code s h)
  shapes-keep t (Null ∷ ms) code s h = shapes-keep t ms code s h

  -- the code that a shape is given is that which it has among all shapes
  pub code_in-shapes : (t : List Shape) (ms : List (Mark ℕ)) (s : Shape) → code_in (shapes_of e es (with_shape t s) ms) s ≡ code_in t s
  code_in-shapes t ms s =
      let own = code_in-own t s in
      shapes-kept (with_shape t s) ms s (omega (arith, own, code_in-added t s)) ∙ own

  -- and it stands for that shape
  pub shapes-declared : (t : List Shape) (ms : List (Mark ℕ)) (s : Shape) → shape_of_code (declarations (shapes_of e es (with_shape t s) ms)) (code_in (shapes_of e es (with_shape t s) ms) s) ≡ Some s
  shapes-declared t ms s =
      ap (shape_of_code (declarations (shapes_of e es (with_shape t s) ms))) (code_in-shapes t ms s)
      ∙ shapes-keep (with_shape t s) ms (code_in t s) s (declared t s)

  code_at-shapes : (t : List Shape) (ms : List (Mark ℕ)) (m : Mark ℕ) → code_at e es (shapes_of e es t (m ∷ ms)) m ≡ code_at e es t m
  code_at-shapes t ms (Open i) = code_in-shapes t ms (shape_of_entry e (entry_at es i))
  code_at-shapes t ms Null = refl

  -- the code that a mark is given is that which it has at the end
  pub code_given : (t final : List Shape) (ms rest : List (Mark ℕ)) (m : Mark ℕ) → shapes_of e es t ms ≡ final → ms ≡ m ∷ rest → code_at e es t m ≡ code_at e es final m
  code_given t final ms rest m h more =
      sym (code_at-shapes t rest m)
      ∙ ap (λ l. code_at e es (shapes_of e es t l) m) (sym more)
      ∙ ap (λ f. code_at e es f m) h

  -- the code that was kept for an item
  pub code_read : (shapes : List Shape) (items : List Item) (codes : List ℕ) (k : ℕ) (d : Item) → codes ≡ map (code_at e es shapes) (marks items) → k < length items → get_or codes k 0 ≡ code_at e es shapes (mark_of (get_or items k d))
  code_read shapes items codes k d h below =
      ap (λ cs. get_or cs k 0) h
      ∙ get_or-map (code_at e es shapes) (marks items) k (mark_of (get_or items k d)) 0 (marks-below items k below)
      ∙ ap (code_at e es shapes) (sym (mark_at items k d below))
