-- What calls that add bytes one after another come to, also where the last one fails.
use Rattle.std.specs.Prelude.{◌≡◌, ℕ, zero, suc, ◌+◌, ◌<◌, List, [], ◌∷◌, ◌++◌, length, take, drop, Some, refl, get_or}
use Rattle.std.specs.List.{flat_map}
use Rattle.std.proofs.Common.{sym, ◌∙◌, ap, subst, arith, length-append}
use Rattle.std.proofs.lemmas.List.{take_more, take-append-drop, flat_map_more}
use Rattle.std.proofs.lemmas.List.Concat.{flat_map-append}
use Rattle.dw_writer.specs.Texts.{followed}
use Rattle.dw_writer.specs.Meaning.{Meaning, Adds, AddsSome}
pub use Rattle.dw_writer.proofs.Parts.{Adds-none}
use Rattle.dw_writer.proofs.Steps.{told_twice, Adds-then}

-- some of the first bytes are some of all
take_of_more : (k : ℕ) (xs ys : List ℕ) → (j : ℕ) × (take j (xs ++ ys) ≡ take k xs)
take_of_more zero xs ys = (0, refl)
take_of_more (suc k) [] ys = (0, refl)
take_of_more (suc k) (x ∷ xs) ys = let r = take_of_more k xs ys in (suc r.0, ap (λ l. x ∷ l) r.1)

-- all of the first bytes and some of the last
take-past : (k : ℕ) (xs ys : List ℕ) → take (length xs + k) (xs ++ ys) ≡ xs ++ take k ys
take-past k [] ys = ap (λ j. take j ys) (omega arith)
take-past k (x ∷ xs) ys =
    let e : length (x ∷ xs) + k ≡ suc (length xs + k) = omega arith in
    ap (λ j. take j (x ∷ (xs ++ ys))) e ∙ ap (λ l. x ∷ l) (take-past k xs ys)

pub AddsSome-more : {a b : Meaning} (xs ys : List ℕ) → AddsSome a b xs → AddsSome a b (xs ++ ys)
AddsSome-more {a} {b} xs ys p =
    let r = take_of_more p.count xs ys in
    record { count = r.0; size = p.size ∙ sym (ap (λ l. a.size + length l) r.1); told = p.told ∙ sym (ap (λ l. followed a.bytes (Some l)) r.1); records = p.records }

pub AddsSome-then : {a b c : Meaning} {xs ys : List ℕ} → Adds a b xs → AddsSome b c ys → AddsSome a c (xs ++ ys)
AddsSome-then {a} {b} {c} {xs} {ys} p q =
    let e = take-past q.count xs ys in
    record {
      count = length xs + q.count;
      size = omega (arith, ap length e, length-append xs (take q.count ys));
      told = q.told ∙ ap (λ t. followed t (Some (take q.count ys))) p.told ∙ sym (told_twice a.bytes xs (take q.count ys)) ∙ sym (ap (λ l. followed a.bytes (Some l)) e);
      records = q.records ∙ p.records;
    }

module _ {X : Type 0} (f : X → List ℕ) (xs : List X) (i : ℕ) (x : X) (below : i < length xs) (is : x ≡ get_or xs i x) where
  flat_map-take : flat_map f (take (i + 1) xs) ≡ flat_map f (take i xs) ++ f x
  flat_map-take = ap (flat_map f) (take_more xs i x below) ∙ sym (flat_map_more f [] (take i xs) (get_or xs i x)) ∙ ap (λ y. flat_map f (take i xs) ++ f y) (sym is)

  -- an element's bytes after those of the elements before it
  pub Adds-element : {a b c : Meaning} → Adds a b (flat_map f (take i xs)) → Adds b c (f x) → Adds a c (flat_map f (take (i + 1) xs))
  Adds-element {a} {b} {c} p q = subst (λ l. Adds a c l) (sym flat_map-take) (Adds-then p q)

  -- the same where that call failed
  pub AddsSome-element : {a b c : Meaning} → Adds a b (flat_map f (take i xs)) → AddsSome b c (f x) → AddsSome a c (flat_map f xs)
  AddsSome-element {a} {b} {c} p q =
      let whole : flat_map f (take (i + 1) xs) ++ flat_map f (drop (i + 1) xs) ≡ flat_map f xs = sym (flat_map-append f (take (i + 1) xs) (drop (i + 1) xs)) ∙ ap (flat_map f) (take-append-drop (i + 1) xs) in
      let some : AddsSome a c (flat_map f (take (i + 1) xs)) = subst (λ l. AddsSome a c l) (sym flat_map-take) (AddsSome-then p q) in
      subst (λ l. AddsSome a c l) whole (AddsSome-more (flat_map f (take (i + 1) xs)) (flat_map f (drop (i + 1) xs)) some)
