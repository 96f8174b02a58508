-- What units add to a section, one behind another. A unit that was written before adds nothing.
use Rattle.std.specs.Prelude.{◌≡◌, ℕ, ◌+◌, Bool, true, false, List, [], ◌∷◌, ◌++◌, Some, None, refl, if◌then◌else◌}
use Rattle.std.proofs.Common.{sym, ◌∙◌, ap, arith}
use Rattle.dw_writer.specs.Texts.{Text, followed}
use Rattle.dw_writer.specs.Layout.{Layout}
use Rattle.dw_writer.specs.Meaning.{Meaning, Model, Appends}
use Rattle.dw_writer.proofs.Laws.{followed_assoc}
use Rattle.dw_writer.proofs.Parts.{Adds-none, followed-nothing}
use Rattle.dw_writer.proofs.Steps.{Adds-appends, Appends-then, Appends-as}
use Rattle.dw_line.specs.Parts.{sizes, texts}
use Rattle.dw_line.proofs.FrontSteps.{Front-none, Front-then}
use Rattle.dw_tree.specs.Elsewhere.{End, Elsewhere, end_of, past_end, past_parts, past_elsewhere, new_size, new_text, AppendsBehind}
use Rattle.dw_tree.specs.UnitValue.{UnitValue}

-- what is found behind units of a table
abbrev pub past_all : Elsewhere → List UnitValue → Elsewhere
past_all t [] = t
past_all t (u ∷ us) = past_all (past_elsewhere t u) us

pub past_all-more : (t : Elsewhere) (xs : List UnitValue) (u : UnitValue) → past_all t (xs ++ u ∷ []) ≡ past_elsewhere (past_all t xs) u
past_all-more t [] u = refl
past_all-more t (x ∷ xs) u = past_all-more (past_elsewhere t x) xs u

-- a unit that was written before leaves all as it is
pub past-old : (t : Elsewhere) (u : UnitValue) → u.is_written ≡ true → past_elsewhere t u ≡ t
past-old t u h = ap (λ (b : Bool). if b then t else past_parts t u) h

pub past-new : (t : Elsewhere) (u : UnitValue) → u.is_written ≡ false → past_elsewhere t u ≡ past_parts t u
past-new t u h = ap (λ (b : Bool). if b then t else past_parts t u) h

-- where a section ends that was added to
pub end-past : {old new : Meaning} {n : ℕ} {t : Model} → Appends old new n t → end_of new ≡ past_end (end_of old) n
end-past {old} {new} {n} p =
    ap (λ k. let e : End = record { size = k; is_plain = new.is_plain } in e) p.size
    ∙ ap (λ b. let e : End = record { size = old.size + n; is_plain = b } in e) p.same.kind

-- nothing is added
pub appends-none : (m : Meaning) → Appends m m 0 (λ big l. Some [])
appends-none m = Adds-appends (Adds-none m)

pub behind-none : (m : Meaning) → AppendsBehind m m 0 (λ big l. Some [])
behind-none m = record { text_is = appends-none m; front = λ tidy. Front-none m }

pub behind-then : {a b c : Meaning} {m n : ℕ} {t u : Model} → AppendsBehind a b m t → AppendsBehind b c n u → AppendsBehind a c (m + n) (λ big l. followed (t big l) (u big l))
behind-then p q = record { text_is = Appends-then p.text_is q.text_is; front = λ tidy. Front-then (p.front tidy) (q.front (p.text_is.tidy tidy)) }

pub behind-as : {a b : Meaning} {m n : ℕ} {t u : Model} → AppendsBehind a b m t → m ≡ n → ((big : Bool) (l : Layout) → t big l ≡ u big l) → AppendsBehind a b n u
behind-as p e f = record { text_is = Appends-as p.text_is e f; front = p.front }

pub nothing-followed : (t : Text) → followed (Some []) t ≡ t
unfolding followed
nothing-followed None = refl
nothing-followed (Some xs) = refl

module _ (size : UnitValue → ℕ) (text : UnitValue → Model) where
  sizes-more : (xs : List UnitValue) (u : UnitValue) → sizes (new_size size) (xs ++ u ∷ []) ≡ sizes (new_size size) xs + new_size size u
  sizes-more [] u = omega arith
  sizes-more (x ∷ xs) u = omega (arith, sizes-more xs u)

  texts-more : (xs : List UnitValue) (u : UnitValue) (big : Bool) (l : Layout) → texts (new_text text) (xs ++ u ∷ []) big l ≡ followed (texts (new_text text) xs big l) (new_text text u big l)
  texts-more [] u big l = followed-nothing (new_text text u big l) ∙ sym (nothing-followed (new_text text u big l))
  texts-more (x ∷ xs) u big l =
      ap (followed (new_text text x big l)) (texts-more xs u big l) ∙ sym (followed_assoc (new_text text x big l) (texts (new_text text) xs big l) (new_text text u big l))

  -- a unit that isn't written yet adds its text
  new-size-is : (u : UnitValue) → u.is_written ≡ false → size u ≡ new_size size u
  new-size-is u h = sym (ap (λ (b : Bool). if b then 0 else size u) h)

  new-text-is : (u : UnitValue) → u.is_written ≡ false → (big : Bool) (l : Layout) → text u big l ≡ new_text text u big l
  new-text-is u h big l = sym (ap (λ (b : Bool). if b then Some [] else text u big l) h)

  old-size-is : (u : UnitValue) → u.is_written ≡ true → 0 ≡ new_size size u
  old-size-is u h = sym (ap (λ (b : Bool). if b then 0 else size u) h)

  old-text-is : (u : UnitValue) → u.is_written ≡ true → (big : Bool) (l : Layout) → Some [] ≡ new_text text u big l
  old-text-is u h big l = sym (ap (λ (b : Bool). if b then Some [] else text u big l) h)

  module _ {a b : Meaning} (xs : List UnitValue) (u : UnitValue) where
    -- one unit more, behind others
    pub appends-new : {c : Meaning} → u.is_written ≡ false → Appends a b (sizes (new_size size) xs) (texts (new_text text) xs) → Appends b c (size u) (text u) →
        Appends a c (sizes (new_size size) (xs ++ u ∷ [])) (texts (new_text text) (xs ++ u ∷ []))
    appends-new h p q = Appends-as (Appends-then p (Appends-as q (new-size-is u h) (new-text-is u h))) (sym (sizes-more xs u)) (λ big l. sym (texts-more xs u big l))

    pub appends-old : u.is_written ≡ true → Appends a b (sizes (new_size size) xs) (texts (new_text text) xs) → Appends a b (sizes (new_size size) (xs ++ u ∷ [])) (texts (new_text text) (xs ++ u ∷ []))
    appends-old h p = Appends-as (Appends-then p (Appends-as (appends-none b) (old-size-is u h) (old-text-is u h))) (sym (sizes-more xs u)) (λ big l. sym (texts-more xs u big l))

    pub behind-new : {c : Meaning} → u.is_written ≡ false → AppendsBehind a b (sizes (new_size size) xs) (texts (new_text text) xs) → AppendsBehind b c (size u) (text u) →
        AppendsBehind a c (sizes (new_size size) (xs ++ u ∷ [])) (texts (new_text text) (xs ++ u ∷ []))
    behind-new h p q = behind-as (behind-then p (behind-as q (new-size-is u h) (new-text-is u h))) (sym (sizes-more xs u)) (λ big l. sym (texts-more xs u big l))

    pub behind-old : u.is_written ≡ true → AppendsBehind a b (sizes (new_size size) xs) (texts (new_text text) xs) → AppendsBehind a b (sizes (new_size size) (xs ++ u ∷ [])) (texts (new_text text) (xs ++ u ∷ []))
    behind-old h p = behind-as (behind-then p (behind-as (behind-none b) (old-size-is u h) (old-text-is u h))) (sym (sizes-more xs u)) (λ big l. sym (texts-more xs u big l))
