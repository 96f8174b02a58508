-- What is kept of names as directories and files are added.
use Rattle.std.proofs.Common.{◌<◌, Bool, true, false, List, [], ◌∷◌, ◌++◌, length, drop, arith, length-append, if◌then◌else◌, cond}
use Rattle.std.specs.List.{All, list_any}
use Rattle.std.specs.Set.{swap_key}
use Rattle.std.proofs.lemmas.List.Elements.{All-nil, All-cons, All-head, All-tail, All-append}
use Rattle.indexmap.specs.IndexSet.{insert_key, replace_key}

module _ {T : Type 0} (P : T → Type 0) where
  one : (k : T) → P k → All P (k ∷ [])
  one k h = All-cons P k [] h (All-nil P)

  pub All-inserted : (eq : T → T → Bool) (ks : List T) (k : T) → All P ks → P k → All P (insert_key eq ks k)
  All-inserted eq ks k all h = by (list_any (eq k) ks)
    where
      by : (b : Bool) → All P (if b then ks else ks ++ k ∷ [])
      by true = all
      by false = All-append P ks (k ∷ []) all (one k h)

  All-swapped : (test : T → Bool) (ks : List T) (k : T) → All P ks → P k → All P (swap_key test ks k)
  All-swapped test [] k all h = All-nil P
  All-swapped test (x ∷ xs) k all h = by (test x) (All-swapped test xs k (All-tail P x xs all) h)
    where
      by : (b : Bool) → All P (swap_key test xs k) → All P (cond b (k ∷ xs) (x ∷ swap_key test xs k))
      by true rest = All-cons P k xs h (All-tail P x xs all)
      by false rest = All-cons P x (swap_key test xs k) (All-head P x xs all) rest

  pub All-replaced : (eq : T → T → Bool) (ks : List T) (k : T) → All P ks → P k → All P (replace_key eq ks k)
  All-replaced eq ks k all h = by (list_any (eq k) ks)
    where
      by : (b : Bool) → All P (if b then swap_key (eq k) ks k else ks ++ k ∷ [])
      by true = All-swapped (eq k) ks k all h
      by false = All-append P ks (k ∷ []) all (one k h)

  after_first : (ks : List T) (k : T) → 0 < length ks → All P (drop 1 ks) → P k → All P (drop 1 (ks ++ k ∷ []))
  after_first [] k some all h = absurd (omega arith)
  after_first (x ∷ xs) k some all h = All-append P xs (k ∷ []) all (one k h)

  -- what holds of all but the first
  pub All-inserted_after : (eq : T → T → Bool) (ks : List T) (k : T) → 0 < length ks → All P (drop 1 ks) → P k → All P (drop 1 (insert_key eq ks k))
  All-inserted_after eq ks k some all h = by (list_any (eq k) ks)
    where
      by : (b : Bool) → All P (drop 1 (if b then ks else ks ++ k ∷ []))
      by true = all
      by false = after_first ks k some all h

pub some_inserted : {T : Type 0} (eq : T → T → Bool) (ks : List T) (k : T) → 0 < length ks → 0 < length (insert_key eq ks k)
some_inserted eq ks k some = by (list_any (eq k) ks)
  where
    by : (b : Bool) → 0 < length (if b then ks else ks ++ k ∷ [])
    by true = some
    by false = omega (arith, length-append ks (k ∷ []))
