-- What the directories and the files of a line program become is one thing.
use Rattle.std.proofs.Common.{◌≡◌, ◌∙◌, sym, ap, ap₂, subst, ℕ, ◌-◌, List, [], ◌∷◌, Bool, Option, Some, None, Result, Ok, Err, refl}
use Rattle.dw_read.specs.Reading.{Read}
use Rattle.dw_read.specs.declared.error.ReadError.{ReadError}
use Rattle.dw_read_lines.specs.LineEntries.{Layout, Directories, Files, Described, next_read}
use Rattle.dw_sources.specs.declared.convert_error.ConvertError.{ConvertError}
use Rattle.dw_convert_lines.specs.Results.{◌=>◌}
use Rattle.dw_convert_lines.specs.Walks.{images, First, WalkedOver}
use Rattle.dw_dwarf_laws.proofs.Results.{same_ok, no_error}

-- a step that gave a value had one before it
pub step_parts : {A B : Type 0} (r : Result A ConvertError) (f : A → Result B ConvertError) (x : B) → (r => f) ≡ Ok x → (a : A) × (r ≡ Ok a) × (f a ≡ Ok x)
step_parts (Ok a) f x e = (a, refl, e)
step_parts (Err u) f x e = absurd (no_error x u (sym e))

abbrev given : {A : Type 0} → Option A → List ℕ → Result (Option A × List ℕ) ReadError
given x rest = Ok (x, rest)

same_entry : {A : Type 0} (x y : A) (m n : List ℕ) → given (Some x) m ≡ given (Some y) n → (x ≡ y) × (m ≡ n)
same_entry {A} x y m n e =
    let q : ◌≡◌ {A = Option A × List ℕ} (Some x, m) (Some y, n) = cc in
    let o : ◌≡◌ {A = Option A} (Some x) (Some y) = ap (λ (z : Option A × List ℕ). z.0) q in
    let s : x ≡ y = cc in (s, ap (λ (z : Option A × List ℕ). z.1) q)

same_end : {A : Type 0} (m n : List ℕ) → given {A = A} None m ≡ given None n → m ≡ n
same_end {A} m n e = let q : ◌≡◌ {A = Option A × List ℕ} (None, m) (None, n) = cc in ap (λ (z : Option A × List ℕ). z.1) q

no_end : {A : Type 0} (x : A) (m n : List ℕ) → given (Some x) m ≡ given None n → ⊥
no_end {A} x m n e = let q : ◌≡◌ {A = Option A × List ℕ} (Some x, m) (None, n) = cc in let o : ◌≡◌ {A = Option A} None (Some x) = sym (ap (λ (z : Option A × List ℕ). z.0) q) in cc

-- Entries that are read by numbers of those that are left, which are near each other: they are read the same by both.
module _ {A : Type 0} (reads : ℕ → Read (Option A)) (Near : ℕ → ℕ → Type 0) (same : (m n : ℕ) → Near m n → (bs : List ℕ) → reads m bs ≡ reads n bs) (next : (m n : ℕ) → Near m n → Near (m - 1) (n - 1)) where
  entries_once : (m n : ℕ) → Near m n → (bytes : List ℕ) (xs ys : List A) (c d : ℕ) (r s p q : List ℕ) → First reads m bytes xs c r → First reads n bytes ys d s → reads c r ≡ Ok (None, p) → reads d s ≡ Ok (None, q) → ◌≡◌ {A = List A × List ℕ} (xs, p) (ys, q)
  entries_once m n near bytes [] [] c d r s p q h k e f =
      let a : p ≡ q = same_end {A = A} p q (sym (ap₂ (λ x y. reads x y) (sym h.0) (sym h.1) ∙ e) ∙ same m n near bytes ∙ ap₂ (λ x y. reads x y) (sym k.0) (sym k.1) ∙ f) in
      λ i. ([], a i)
  entries_once m n near bytes [] (y ∷ ys) c d r s p q h k e f = absurd (no_end y k.0 p (sym k.1 ∙ sym (same m n near bytes) ∙ ap₂ (λ x y. reads x y) (sym h.0) (sym h.1) ∙ e))
  entries_once m n near bytes (x ∷ xs) [] c d r s p q h k e f = absurd (no_end x h.0 q (sym h.1 ∙ same m n near bytes ∙ ap₂ (λ x y. reads x y) (sym k.0) (sym k.1) ∙ f))
  entries_once m n near bytes (x ∷ xs) (y ∷ ys) c d r s p q h k e f =
      let t = same_entry x y h.0 k.0 (sym h.1 ∙ same m n near bytes ∙ k.1) in
      let more = entries_once (m - 1) (n - 1) (next m n near) k.0 xs ys c d r s p q (subst (λ bs. First reads (m - 1) bs xs c r) t.1 h.2) k.2 e f in
      λ i. (t.0 i ∷ (more i).0, (more i).1)

  -- and what they make
  pub walk_once : {S : Type 0} (image : A → S → Result S ConvertError) (m n : ℕ) → Near m n → (bytes : List ℕ) (s : S) (x y : S × List ℕ) → WalkedOver reads image m bytes s x.0 x.1 → WalkedOver reads image n bytes s y.0 y.1 → x ≡ y
  walk_once {S} image m n near bytes s x y h k =
      let e = entries_once m n near bytes h.walked.entries k.walked.entries h.count k.count h.rest k.rest x.1 y.1 h.walked.read k.walked.read h.end k.end in
      let made : x.0 ≡ y.0 = same_ok (images image h.walked.entries s) x.0 y.0 h.walked.become (ap (λ (z : List A × List ℕ). images image z.0 s) e ∙ k.walked.become) in
      λ i. (made i, (e i).1)

-- what each entry keeps, all of them keep
pub walk_keeps : {A S : Type 0} (reads : ℕ → Read (Option A)) (image : A → S → Result S ConvertError) (Holds : S → Type 0) → ((a : A) (s t : S) → Holds s → image a s ≡ Ok t → Holds t) → (n : ℕ) (bytes : List ℕ) (s : S) (x : S × List ℕ) → Holds s → WalkedOver reads image n bytes s x.0 x.1 → Holds x.0
walk_keeps {A} {S} reads image Holds keeps n bytes s x holds h = all h.walked.entries s x.0 holds h.walked.become
  where
    all : (as_ : List A) (s t : S) → Holds s → images image as_ s ≡ Ok t → Holds t
    all [] s t holds e = subst Holds (let q : s ≡ t = same_ok {X = ConvertError} (Ok s) s t refl e in q) holds
    all (a ∷ as_) s t holds e = let p = step_parts (image a s) (λ t. images image as_ t) t e in all as_ p.0 t (keeps a s p.0 holds p.1) p.2

-- Up to version 4 no number of entries is told, and any other does as well.
abbrev pub AreNear : Layout → ℕ → ℕ → Type 0
AreNear Directories m n = Unit {0}
AreNear Files m n = Unit {0}
AreNear (Described e parts) m n = m ≡ n

pub near_same : (big : Bool) (l : Layout) (m n : ℕ) → AreNear l m n → (bs : List ℕ) → next_read big l m bs ≡ next_read big l n bs
unfolding next_read
near_same big Directories m n h bs = refl
near_same big Files m n h bs = refl
near_same big (Described e parts) m n h bs = ap (λ k. next_read big (Described e parts) k bs) h

pub near_next : (l : Layout) (m n : ℕ) → AreNear l m n → AreNear l (m - 1) (n - 1)
near_next Directories m n h = tt
near_next Files m n h = tt
near_next (Described e parts) m n h = ap (λ k. k - 1) h
