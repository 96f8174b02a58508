-- What calls come to that write several things, one after another.
use Rattle.std.proofs.Common.{◌≡◌, ◌∙◌, sym, ap, subst, ℕ, zero, suc, ◌+◌, ◌<◌, ◌≤◌, Bool, true, false, not, ◌||◌, List, [], ◌∷◌, ◌++◌, length, take, get_or, Some, None, refl, arith, IsTrue, IsFalse, append-nil}
use Rattle.std.specs.Prelude.{Result, Ok, Err, OnOk}
use Rattle.std.specs.List.{list_any, list_all}
use Rattle.std.proofs.lemmas.Bool.{and_parts}
use Rattle.std.proofs.lemmas.List.{take_more, take_all}
use Rattle.std.proofs.lemmas.List.Folds.{list_any_more, list_any_at}
use Rattle.dw_base.specs.declared.error.Error.{Error}
use Rattle.dw_base.specs.declared.error.Error.TheVariants as errors
use Rattle.dw_writer.specs.Texts.{Text, followed}
use Rattle.dw_writer.specs.Meaning.{Layout, Meaning, Model, IsSameWriter, Appends}
use Rattle.dw_writer.specs.Causes.{BytesRefused}
use Rattle.dw_writer.proofs.Laws.{followed_assoc}
use Rattle.dw_writer.proofs.Steps.{Adds-appends, Appends-then, Appends-as}
use Rattle.dw_line.specs.Parts.{sizes, texts, Refused}
use Rattle.dw_line.proofs.Steps.{Adds-none, risen_before}

followed-nothing : (t : Text) → followed t (Some []) ≡ t
unfolding followed
followed-nothing None = refl
followed-nothing (Some xs) = ap Some (append-nil xs)

nothing-followed : (t : Text) → followed (Some []) t ≡ t
unfolding followed
nothing-followed None = refl
nothing-followed (Some xs) = refl

sizes-more : {X : Type 0} (size : X → ℕ) (xs : List X) (x : X) → sizes size (xs ++ x ∷ []) ≡ sizes size xs + size x
sizes-more size [] x = omega arith
sizes-more size (y ∷ xs) x = omega (arith, sizes-more size xs x)

texts-more : {X : Type 0} (text : X → Model) (xs : List X) (x : X) (big : Bool) (l : Layout) → texts text (xs ++ x ∷ []) big l ≡ followed (texts text xs big l) (text x big l)
texts-more text [] x big l = followed-nothing (text x big l) ∙ sym (nothing-followed (text x big l))
texts-more text (y ∷ xs) x big l = ap (followed (text y big l)) (texts-more text xs x big l) ∙ sym (followed_assoc (text y big l) (texts text xs big l) (text x big l))

-- nothing so far
pub texts_none : {X : Type 0} (size : X → ℕ) (text : X → Model) (m : Meaning) → Appends m m (sizes size []) (texts text [])
texts_none size text m = Adds-appends (Adds-none m)

module _ {X : Type 0} (size : X → ℕ) (text : X → Model) (xs : List X) (i : ℕ) (x : X) (below : i < length xs) (is : x ≡ get_or xs i x) where
  -- one more
  pub texts_step : {a b c : Meaning} → Appends a b (sizes size (take i xs)) (texts text (take i xs)) → Appends b c (size x) (text x) → Appends a c (sizes size (take (i + 1) xs)) (texts text (take (i + 1) xs))
  texts_step {a} {b} {c} p q =
      let more : take i xs ++ x ∷ [] ≡ take (i + 1) xs = ap (λ y. take i xs ++ y ∷ []) is ∙ sym (take_more xs i x below) in
      subst (λ ys. Appends a c (sizes size ys) (texts text ys)) more
      (Appends-as (Appends-then p q) (sym (sizes-more size (take i xs) x)) (λ big l. sym (texts-more text (take i xs) x big l)))

-- all of them
pub texts_whole : {X : Type 0} {a b : Meaning} (size : X → ℕ) (text : X → Model) (xs : List X) (i : ℕ) → length xs ≤ i → Appends a b (sizes size (take i xs)) (texts text (take i xs)) → Appends a b (sizes size xs) (texts text xs)
texts_whole {X} {a} {b} size text xs i past p = subst (λ ys. Appends a b (sizes size ys) (texts text ys)) (take_all i xs past) p

pub neither : (a b : Bool) → IsFalse a → IsFalse b → IsFalse (a || b)
neither true b h k = absurd (let x : true ≡ false = h in cc)
neither false b h k = k

module _ {X : Type 0} (fails : X → Error → Bool) (xs : List X) (i : ℕ) (x : X) (below : i < length xs) (is : x ≡ get_or xs i x) where
  -- an element without a fault after others without one
  pub none_more : ((e : Error) → IsFalse (list_any (λ y. fails y e) (take i xs))) → ((e : Error) → IsFalse (fails x e)) → (e : Error) → IsFalse (list_any (λ y. fails y e) (take (i + 1) xs))
  none_more h here e =
      list_any_more (λ y. fails y e) xs i x below ∙ neither (list_any (λ y. fails y e) (take i xs)) (fails (get_or xs i x) e) (h e) (ap (λ y. fails y e) (sym is) ∙ here e)

  -- an element with a fault
  pub some_at : (e : Error) → IsTrue (fails x e) → IsTrue (list_any (λ y. fails y e) xs)
  some_at e here = list_any_at (λ y. fails y e) xs i x below (ap (λ y. fails y e) (sym is) ∙ here)

pub none_all : {X : Type 0} (fails : X → Error → Bool) (xs : List X) (i : ℕ) → length xs ≤ i → ((e : Error) → IsFalse (list_any (λ y. fails y e) (take i xs))) → (e : Error) → IsFalse (list_any (λ y. fails y e) xs)
none_all fails xs i past h e = subst (λ ys. IsFalse (list_any (λ y. fails y e) ys)) (take_all i xs past) (h e)

-- bytes that are refused after others
pub bytes_refused : {a b : Meaning} (c : Meaning) (fails : Error → Bool) → IsSameWriter a b → (e : Error) → BytesRefused b c e → Refused a c fails e
bytes_refused c fails same errors.NoMemory h = tt
bytes_refused c fails same errors.WriteFault h = risen_before c same h
bytes_refused c fails same _ h = absurd h

-- a call with causes of its own after others
pub refused_after : {a b : Meaning} (c : Meaning) (p q : Error → Bool) → IsSameWriter a b → ((e : Error) → IsTrue (p e) → IsTrue (q e)) → (e : Error) → Refused b c p e → Refused a c q e
refused_after c p q same f errors.NoMemory h = tt
refused_after c p q same f errors.WriteFault h = risen_before c same h
refused_after c p q same f e h = f e h

-- the same call, with more causes
pub refused_more : (a b : Meaning) (p q : Error → Bool) → ((e : Error) → IsTrue (p e) → IsTrue (q e)) → (e : Error) → Refused a b p e → Refused a b q e
refused_more a b p q f errors.NoMemory h = tt
refused_more a b p q f errors.WriteFault h = h
refused_more a b p q f e h = f e h

-- an element passes a test that all pass
pub all_at : {X : Type 0} (test : X → Bool) (xs : List X) (i : ℕ) (x : X) → i < length xs → x ≡ get_or xs i x → IsTrue (list_all test xs) → IsTrue (test x)
all_at test [] i x below is h = absurd (omega arith)
all_at test (y ∷ xs) zero x below is h = ap test is ∙ (and_parts (test y) (list_all test xs) h).0
all_at test (y ∷ xs) (suc i) x below is h = all_at test xs i x (omega arith) is (and_parts (test y) (list_all test xs) h).1

-- what has no cause is refused for want of memory or by the writer alone
pub valid_refused : (a b : Meaning) (fails : Error → Bool) → ((e : Error) → IsFalse (fails e)) → (e : Error) → Refused a b fails e → BytesRefused a b e
valid_refused a b fails valid errors.NoMemory h = tt
valid_refused a b fails valid errors.WriteFault h = h
valid_refused a b fails valid e h = absurd (let k : true ≡ false = sym h ∙ valid e in cc)

-- a test that doesn't hold
pub or_false : (a b : Bool) → IsFalse (a || b) → IsFalse a
or_false true b h = h
or_false false b h = refl

pub not_false : (a : Bool) → IsFalse (not a) → IsTrue a
not_false true h = refl
not_false false h = absurd (let k : true ≡ false = h in cc)

pub OnOk-both : {T E P Q R : Type 0} (r : Result T E) → OnOk r P → OnOk r Q → (P → Q → R) → OnOk r R
OnOk-both (Ok x) p q f = f p q
OnOk-both (Err e) p q f = tt
