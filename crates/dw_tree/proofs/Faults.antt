-- Faults of lists, and why calls after others are refused.
use Rattle.std.specs.Prelude.{◌≡◌, ℕ, ◌+◌, ◌<◌, Bool, true, false, not, ◌||◌, List, [], ◌∷◌, ◌++◌, length, take, get_or, All, IsTrue, IsFalse, Result, Ok, Err, OnOk, refl}
use Rattle.std.specs.List.{list_any}
use Rattle.std.proofs.Common.{sym, ◌∙◌, ap, subst}
use Rattle.std.proofs.lemmas.List.{take_more}
use Rattle.std.proofs.lemmas.List.Elements.{All-nil, All-cons, All-append}
use Rattle.std.proofs.lemmas.List.Folds.{list_any_more, list_any_at}
use Rattle.dw_base.specs.Numbers.{fits}
use Rattle.dw_base.specs.declared.error.Error.{Error}
use Rattle.dw_base.specs.declared.error.Error.TheVariants as errors
use Rattle.dw_writer.specs.Meaning.{Meaning, IsSameWriter}
use Rattle.dw_writer.specs.Causes.{BytesRefused, HasRisen}
use Rattle.dw_writer.proofs.FaultLaws.{HasRisen-from}
use Rattle.dw_tree.specs.Causes.{Because, Refused}

pub neither : (a b : Bool) → IsFalse a → IsFalse b → IsFalse (a || b)
neither true b h k = absurd (let x : true ≡ false = h in cc)
neither false b h k = k

module _ {X : Type 0} (fails : X → Error → Bool) (xs : List X) (i : ℕ) (x : X) (below : i < length xs) (is : x ≡ get_or xs i x) where
  -- an element without a fault after others without one
  pub none_more : ((e : Error) → IsFalse (list_any (λ y. fails y e) (take i xs))) → ((e : Error) → IsFalse (fails x e)) → (e : Error) → IsFalse (list_any (λ y. fails y e) (take (i + 1) xs))
  none_more h here e =
      list_any_more (λ y. fails y e) xs i x below ∙ neither (list_any (λ y. fails y e) (take i xs)) (fails (get_or xs i x) e) (h e) (ap (λ y. fails y e) (sym is) ∙ here e)

  -- an element with a fault
  pub some_at : (e : Error) → IsTrue (fails x e) → IsTrue (list_any (λ y. fails y e) xs)
  some_at e here = list_any_at (λ y. fails y e) xs i x below (ap (λ y. fails y e) (sym is) ∙ here)

-- an element that has a property after others that have it
pub All-more : {X : Type 0} (P : X → Type 0) (xs : List X) (i : ℕ) (x : X) → i < length xs → x ≡ get_or xs i x → All P (take i xs) → P x → All P (take (i + 1) xs)
All-more P xs i x below is h here =
    subst (All P) (sym (take_more xs i x below ∙ ap (λ y. take i xs ++ y ∷ []) (sym is))) (All-append P (take i xs) (x ∷ []) h (All-cons P x [] here (All-nil P)))

-- a refusal with another cause, and where more counts as a fault
pub because-map : {rise more : Type 0} {p q : Error → Type 0} → (rise → more) → ((e : Error) → p e → q e) → (e : Error) → Because rise p e → Because more q e
because-map f g errors.NoMemory h = tt
because-map f g errors.WriteFault h = f h
because-map f g e h = g e h

-- why calls are refused after others that wrote
pub refused_after : (a b c : Meaning) (p q : Error → Type 0) → IsSameWriter a b → ((e : Error) → p e → q e) → (e : Error) → Refused b c p e → Refused a c q e
refused_after a b c p q same f e h = because-map (HasRisen-from a b c same.faults) f e h

-- bytes are refused for no cause of their own
pub bytes_because : {rise : Type 0} (p : Error → Type 0) (old new : Meaning) → (HasRisen old new → rise) → (e : Error) → BytesRefused old new e → Because rise p e
bytes_because p old new f errors.NoMemory h = tt
bytes_because p old new f errors.WriteFault h = f h
bytes_because p old new f e h = absurd h

pub OnOk-both : {T E P Q R : Type 0} (r : Result T E) → OnOk r P → OnOk r Q → (P → Q → R) → OnOk r R
OnOk-both (Ok x) p q f = f p q
OnOk-both (Err e) p q f = tt

-- a number without a fault fits
pub fitting_number : (w n : ℕ) → IsFalse (not (fits w n)) → IsTrue (fits w n)
fitting_number w n h = by_test (fits w n) h
  where
    by_test : (b : Bool) → IsFalse (not b) → IsTrue b
    by_test true k = refl
    by_test false k = absurd (let x : true ≡ false = k in cc)

-- bytes behind others are refused for no cause of their own
pub refused_bytes : (a b c : Meaning) (p : Error → Type 0) → IsSameWriter a b → (e : Error) → BytesRefused b c e → Refused a c p e
refused_bytes a b c p same e h = refused_after a b c p p same (λ x k. k) e (bytes_because p b c (λ rise. rise) e h)
