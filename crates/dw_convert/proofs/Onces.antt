-- Of several attributes of one name the last counts, in the place of the first.
use Rattle.std.proofs.Common.{◌≡◌, ◌∙◌, sym, ap, ℕ, zero, suc, ◌+◌, ◌<◌, ◌≤◌, Bool, true, false, List, [], ◌∷◌, ◌++◌, length, Some, None, refl, arith, cond, not}
use Rattle.std.proofs.Math.ListN.{get_or}
use Rattle.std.proofs.Math.Seq.{take-suc}
use Rattle.std.proofs.Common.{take, Option}
use Rattle.std.specs.Prelude.{MatchOption}
use Rattle.std.proofs.lemmas.List.{append-nil, append_assoc}
use Rattle.std.specs.Option.{is_some}
use Rattle.indexmap.specs.IndexMap.{insert_entry}
use Rattle.std.specs.List.{position_or_len}
use Rattle.std.proofs.lemmas.List.Quantifiers.{position-Some}
use Rattle.std.specs.Prelude.{◌==◌, if◌then◌else◌, slice_set, position}
use Rattle.std.proofs.lemmas.Bool.{eqb-true, eqb-false, eq-eqb, ne_eqb, true≢false}
use Rattle.dw_base.specs.declared.constants.DwAt.{DwAt}
use Rattle.dw_entries.specs.declared.value.AttributeValue.{AttributeValue}
use Rattle.dw_read.specs.Values.{is_among}
use Rattle.dw_convert.specs.AttributeLists.{last_or, once_but, once, put, has_name}

abbrev pub Named : Type 0
Named = DwAt × AttributeValue

same : (x y : DwAt) → x.0 ≡ y.0 → x ≡ y
same x y e = λ i. record { 0 = e i }

-- one more value under another name changes nothing
last_other : (n : ℕ) (v : AttributeValue) (xs : List Named) (y : Named) → (y.0.0 == n) ≡ false → last_or n v (xs ++ y ∷ []) ≡ last_or n v xs
last_other n v [] y e = ap (λ b. if b then y.1 else v) e
last_other n v (x ∷ xs) y e = last_other n (if x.0.0 == n then x.1 else v) xs y e

-- one more under the name is the last
last_same : (n : ℕ) (v : AttributeValue) (xs : List Named) (y : Named) → (y.0.0 == n) ≡ true → last_or n v (xs ++ y ∷ []) ≡ y.1
last_same n v [] y e = ap (λ b. if b then y.1 else v) e
last_same n v (x ∷ xs) y e = last_same n (if x.0.0 == n then x.1 else v) xs y e

flipped : (m n : ℕ) (b : Bool) → (m == n) ≡ b → (n == m) ≡ b
flipped m n true e = eq-eqb n m (sym (eqb-true m n e))
flipped m n false e = ne_eqb n m (λ (h : n ≡ m). eqb-false m n e (sym h))

step : (seen : List ℕ) (x : Named) (xs : List Named) (b : Bool) → is_among x.0.0 seen ≡ b → once_but seen (x ∷ xs) ≡ (if b then once_but seen xs else (x.0, last_or x.0.0 x.1 xs) ∷ once_but (x.0.0 ∷ seen) xs)
step seen x xs b e = ap (λ c. if c then once_but seen xs else (x.0, last_or x.0.0 x.1 xs) ∷ once_but (x.0.0 ∷ seen) xs) e

among_more : (n m : ℕ) (seen : List ℕ) (b : Bool) → (n == m) ≡ b → is_among n (m ∷ seen) ≡ (if b then true else is_among n seen)
among_more n m seen b e = ap (λ c. if c then true else is_among n seen) e

-- a name that isn't among others is none that is
differs : (n m : ℕ) (seen : List ℕ) → is_among n seen ≡ true → is_among m seen ≡ false → (n == m) ≡ false
differs n m seen a b = ne_eqb n m (λ (e : n ≡ m). true≢false (sym a ∙ ap (λ k. is_among k seen) e ∙ b))

-- one more value under a name that isn't to stand, where that is so of fewer
unseen_case : (x : Named) (xs : List Named) (y : Named) (seen : List ℕ) → ((s : List ℕ) → is_among y.0.0 s ≡ true → once_but s (xs ++ y ∷ []) ≡ once_but s xs) → is_among y.0.0 seen ≡ true → (b : Bool) → is_among x.0.0 seen ≡ b → once_but seen (x ∷ (xs ++ y ∷ [])) ≡ once_but seen (x ∷ xs)
unseen_case x xs y seen less a true b = step seen x (xs ++ y ∷ []) true b ∙ less seen a ∙ sym (step seen x xs true b)
unseen_case x xs y seen less a false b =
    let d : (y.0.0 == x.0.0) ≡ false = differs y.0.0 x.0.0 seen a b in
    let v : last_or x.0.0 x.1 (xs ++ y ∷ []) ≡ last_or x.0.0 x.1 xs = last_other x.0.0 x.1 xs y d in
    let m : is_among y.0.0 (x.0.0 ∷ seen) ≡ true = among_more y.0.0 x.0.0 seen false d ∙ a in
    step seen x (xs ++ y ∷ []) false b
    ∙ ap (λ (w : AttributeValue). (x.0, w) ∷ once_but (x.0.0 ∷ seen) (xs ++ y ∷ [])) v
    ∙ ap (λ (zs : List Named). (x.0, last_or x.0.0 x.1 xs) ∷ zs) (less (x.0.0 ∷ seen) m)
    ∙ sym (step seen x xs false b)

once_unseen : (xs : List Named) (y : Named) (seen : List ℕ) → is_among y.0.0 seen ≡ true → once_but seen (xs ++ y ∷ []) ≡ once_but seen xs
once_unseen [] y seen a = step seen y [] true a
once_unseen (x ∷ xs) y seen a = unseen_case x xs y seen (once_unseen xs y) a (is_among x.0.0 seen) refl

put_step : (n : DwAt) (v : AttributeValue) (x : Named) (xs : List Named) (b : Bool) → (x.0.0 == n.0) ≡ b → put n v (x ∷ xs) ≡ (if b then (n, v) ∷ xs else x ∷ put n v xs)
put_step n v x xs b e = ap (λ c. if c then (n, v) ∷ xs else x ∷ put n v xs) e

-- one more value under a name that is to stand: the first of the others has the name, or another
kept_case : (x : Named) (xs : List Named) (y : Named) (seen : List ℕ) → ((s : List ℕ) → is_among y.0.0 s ≡ false → once_but s (xs ++ y ∷ []) ≡ put y.0 y.1 (once_but s xs)) → is_among y.0.0 seen ≡ false → is_among x.0.0 seen ≡ false → (b : Bool) → (y.0.0 == x.0.0) ≡ b → once_but seen (x ∷ (xs ++ y ∷ [])) ≡ put y.0 y.1 (once_but seen (x ∷ xs))
kept_case x xs y seen less a b true d =
    let v : last_or x.0.0 x.1 (xs ++ y ∷ []) ≡ y.1 = last_same x.0.0 x.1 xs y d in
    let m : is_among y.0.0 (x.0.0 ∷ seen) ≡ true = among_more y.0.0 x.0.0 seen true d in
    step seen x (xs ++ y ∷ []) false b
    ∙ ap (λ (w : AttributeValue). (x.0, w) ∷ once_but (x.0.0 ∷ seen) (xs ++ y ∷ [])) v
    ∙ ap (λ (zs : List Named). (x.0, y.1) ∷ zs) (once_unseen xs y (x.0.0 ∷ seen) m)
    ∙ ap (λ (n : DwAt). (n, y.1) ∷ once_but (x.0.0 ∷ seen) xs) (same x.0 y.0 (sym (eqb-true y.0.0 x.0.0 d)))
    ∙ sym (put_step y.0 y.1 (x.0, last_or x.0.0 x.1 xs) (once_but (x.0.0 ∷ seen) xs) true (flipped y.0.0 x.0.0 true d))
    ∙ ap (put y.0 y.1) (sym (step seen x xs false b))
kept_case x xs y seen less a b false d =
    let v : last_or x.0.0 x.1 (xs ++ y ∷ []) ≡ last_or x.0.0 x.1 xs = last_other x.0.0 x.1 xs y d in
    let m : is_among y.0.0 (x.0.0 ∷ seen) ≡ false = among_more y.0.0 x.0.0 seen false d ∙ a in
    step seen x (xs ++ y ∷ []) false b
    ∙ ap (λ (w : AttributeValue). (x.0, w) ∷ once_but (x.0.0 ∷ seen) (xs ++ y ∷ [])) v
    ∙ ap (λ (zs : List Named). (x.0, last_or x.0.0 x.1 xs) ∷ zs) (less (x.0.0 ∷ seen) m)
    ∙ sym (put_step y.0 y.1 (x.0, last_or x.0.0 x.1 xs) (once_but (x.0.0 ∷ seen) xs) false (flipped y.0.0 x.0.0 false d))
    ∙ ap (put y.0 y.1) (sym (step seen x xs false b))

seen_case : (x : Named) (xs : List Named) (y : Named) (seen : List ℕ) → ((s : List ℕ) → is_among y.0.0 s ≡ false → once_but s (xs ++ y ∷ []) ≡ put y.0 y.1 (once_but s xs)) → is_among y.0.0 seen ≡ false → (b : Bool) → is_among x.0.0 seen ≡ b → once_but seen (x ∷ (xs ++ y ∷ [])) ≡ put y.0 y.1 (once_but seen (x ∷ xs))
seen_case x xs y seen less a true b = step seen x (xs ++ y ∷ []) true b ∙ less seen a ∙ ap (put y.0 y.1) (sym (step seen x xs true b))
seen_case x xs y seen less a false b = kept_case x xs y seen less a b (y.0.0 == x.0.0) refl

once_seen : (xs : List Named) (y : Named) (seen : List ℕ) → is_among y.0.0 seen ≡ false → once_but seen (xs ++ y ∷ []) ≡ put y.0 y.1 (once_but seen xs)
once_seen [] y seen a = step seen y [] false a
once_seen (x ∷ xs) y seen a = seen_case x xs y seen (once_seen xs y) a (is_among x.0.0 seen) refl

-- one more attribute is put in its place
pub once_more : (xs : List Named) (n : DwAt) (v : AttributeValue) → once (xs ++ (n, v) ∷ []) ≡ put n v (once xs)
once_more xs n v = once_seen xs (n, v) [] refl

-- what stands at the first place of a name
put_at : (n : DwAt) (i : ℕ) (v : AttributeValue) (xs : List Named) (d : Named) → i < length xs → has_name n.0 (get_or xs i d) ≡ true → ((k : ℕ) → k < i → has_name n.0 (get_or xs k d) ≡ false) → slice_set xs i (n, v) ≡ put n v xs
put_at n i v [] d within here before = absurd (omega arith)
put_at n zero v (x ∷ xs) d within here before = sym (put_step n v x xs true here)
put_at n (suc i) v (x ∷ xs) d within here before =
    ap (λ (t : List Named). x ∷ t) (put_at n i v xs d (omega arith) here (λ k h. before (suc k) (omega arith))) ∙ sym (put_step n v x xs false (before 0 (omega arith)))

pub put_found : (n : DwAt) (i : ℕ) (v : AttributeValue) (xs : List Named) → Some i ≡ position (has_name n.0) xs → slice_set xs i (n, v) ≡ put n v xs
put_found n i v xs e =
    let p = position-Some (has_name n.0) xs i (n, v) (sym e) in
    put_at n i v xs (n, v) p.0 p.1 p.2

-- no attribute has the name
past_none : (n : DwAt) (xs : List Named) → None ≡ position (has_name n.0) xs → length xs ≤ position_or_len (has_name n.0) xs
past_none n xs e = grind arith

put_past : (n : DwAt) (v : AttributeValue) (xs : List Named) → length xs ≤ position_or_len (has_name n.0) xs → xs ++ (n, v) ∷ [] ≡ put n v xs
put_past n v [] h = refl
put_past n v (x ∷ xs) h = go (has_name n.0 x) refl (put_past n v xs) h
  where
    go : (b : Bool) → has_name n.0 x ≡ b → (length xs ≤ position_or_len (has_name n.0) xs → xs ++ (n, v) ∷ [] ≡ put n v xs) → suc (length xs) ≤ cond (not b) (1 + position_or_len (has_name n.0) xs) 0 → x ∷ (xs ++ (n, v) ∷ []) ≡ put n v (x ∷ xs)
    go true e rest k = absurd (omega arith)
    go false e rest k = ap (λ (t : List Named). x ∷ t) (rest (omega arith)) ∙ sym (put_step n v x xs false e)

pub put_missing : (n : DwAt) (v : AttributeValue) (xs : List Named) → None ≡ position (has_name n.0) xs → xs ++ (n, v) ∷ [] ≡ put n v xs
put_missing n v xs e = put_past n v xs (past_none n xs e)

-- none has the name of one that stands behind those before it
pub once_so_far : (all : List Named) (i : ℕ) (x : Named) → i < length all → x ≡ get_or all i x → None ≡ position (has_name x.0.0) (take i all) → once (take i all) ≡ take i all → once (take (i + 1) all) ≡ take (i + 1) all
once_so_far all i x within there none h =
    let one : i + 1 ≡ suc i = omega arith in
    let more : take (i + 1) all ≡ take i all ++ x ∷ [] = ap (λ (n : ℕ). take n all) one ∙ take-suc all i x within ∙ ap (λ (y : Named). take i all ++ y ∷ []) (sym there) in
    ap once more ∙ once_more (take i all) x.0 x.1 ∙ ap (put x.0 x.1) h ∙ sym (put_missing x.0 x.1 (take i all) none) ∙ sym more

-- a map puts a value under a name where it stands, or behind the others
pub insert_put : (n : DwAt) (v : AttributeValue) (xs : List Named) → insert_entry (λ (a : DwAt) (b : DwAt). a.0 == b.0) xs n v ≡ put n v xs
insert_put n v [] = refl
insert_put n v (x ∷ xs) = go (n.0 == x.0.0) refl (insert_put n v xs)
  where
    go : (b : Bool) → (n.0 == x.0.0) ≡ b → insert_entry (λ (a : DwAt) (b : DwAt). a.0 == b.0) xs n v ≡ put n v xs → (if b then (x.0, v) ∷ xs else x ∷ insert_entry (λ (a : DwAt) (b : DwAt). a.0 == b.0) xs n v) ≡ put n v (x ∷ xs)
    go true e rest = ap (λ (m : DwAt). (m, v) ∷ xs) (sym (same n x.0 (eqb-true n.0 x.0.0 e))) ∙ sym (put_step n v x xs true (flipped n.0 x.0.0 true e))
    go false e rest = ap (λ ys. x ∷ ys) rest ∙ sym (put_step n v x xs false (flipped n.0 x.0.0 false e))

pub is_none : {X : Type 0} (o : Option X) → is_some o ≡ false → o ≡ None
is_none None h = refl
is_none (Some x) h = absurd (true≢false h)

-- what is taken from the front and put behind others leaves all as they were
pub first_taken : (s t xs ys : List Named) (x : Named) (o : Option Named) → Some x ≡ o → MatchOption o ((s ≡ []) × (t ≡ [])) (λ y. s ≡ y ∷ t) → ys ≡ xs ++ x ∷ [] → ys ++ t ≡ xs ++ s
first_taken s t xs ys x None h m e = let clash : Some x ≡ None = h in absurd cc
first_taken s t xs ys x (Some y) h m e =
    let is : x ≡ y = cc in
    ap (λ (zs : List Named). zs ++ t) e ∙ append_assoc xs (x ∷ []) t ∙ ap (λ (z : Named). xs ++ z ∷ t) is ∙ ap (λ (zs : List Named). xs ++ zs) (sym m)

-- and once nothing is left there, all is behind the others
pub none_left : (s t xs : List Named) (o : Option Named) → None ≡ o → MatchOption o ((s ≡ []) × (t ≡ [])) (λ y. s ≡ y ∷ t) → xs ≡ xs ++ s
none_left s t xs None h m = sym (ap (λ (zs : List Named). xs ++ zs) m.0 ∙ append-nil xs)
none_left s t xs (Some y) h m = let clash : None ≡ Some y = h in absurd cc
