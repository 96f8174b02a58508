-- Why tables are refused.
use Rattle.std.specs.Prelude.{◌≡◌, ℕ, ◌≤◌, ◌<◌, ◌^◌, Bool, true, false, ◌||◌, nat_le, List, [], ◌∷◌, length, get_or, Option, Some, None, IsTrue, refl}
use Rattle.std.proofs.Common.{subst, arith, ⊎_elim}
use Rattle.std.specs.List.{list_any}
use Rattle.std.proofs.lemmas.Bool.{lt-leb, or_left, or_right}
use Rattle.std.proofs.lemmas.List.Folds.{list_any_at}
use Rattle.dw_base.specs.declared.common.Encoding.{Encoding}
use Rattle.dw_base.specs.declared.common.Format.{Format}
use Rattle.dw_base.specs.declared.error.Error.{Error}
use Rattle.dw_base.specs.declared.error.Error.TheVariants as errors
use Rattle.dw_writer.specs.Contents.{Meaning}
use Rattle.dw_writer.specs.Meaning.{IsSameWriter}
use Rattle.dw_expr.specs.Trees.{Node}
use Rattle.dw_expr.specs.Places.{place_by, MemoryOr}
use Rattle.dw_expr.specs.Causes as expressions
use Rattle.dw_expr.proofs.PartLaws.{size_refused as expression_unsized}
use Rattle.dw_writer.specs.Causes.{HasRisen}
use Rattle.dw_lists.specs.Parts.{Part}
use Rattle.dw_lists.specs.Tables.{body_draft, entries_of}
use Rattle.dw_lists.specs.Causes.{Refused, Is, IsNone, count_fails, size_fails, length_fails, words_fail, header_fails, unsized, parts_unsized, parts_unsized_in, lists_unsized, lists_unsized_in, located_fails, new_span_fails, new_part_fails, new_list_fails, list_fails, lists_fail, head_fails, entries_fail, table_fails_by}
use Rattle.dw_lists.proofs.Causes.{neither_cause}
use Rattle.dw_lists.proofs.Refusals.{refused_after, weaker, larger}

module _ (v : Encoding) (known : Option (ℕ → Option ℕ)) where
  -- a list with a fault among others
  pub lists_refused : (a b c : Meaning) (five base : Bool) (xs : List (List Part)) (i : ℕ) (x : List Part) → i < length xs → x ≡ get_or xs i x → IsSameWriter a b →
      (e : Error) → Refused b c (Is (list_fails v known b.is_plain five base x)) e → Refused a c (Is (lists_fail v known a.is_plain five base xs)) e
  lists_refused a b c five base xs i x below is same e h =
      refused_after a b c (Is (list_fails v known b.is_plain five base x)) (Is (lists_fail v known a.is_plain five base xs)) same
      (λ err k. list_any_at (λ y. list_fails v known a.is_plain five base y err) xs i x below
      (subst (λ y. IsTrue (list_fails v known a.is_plain five base y err)) is (subst (λ plain. IsTrue (list_fails v known plain five base x err)) same.kind k))) e h

  -- what has no size can't be written
  module _ (plain base : Bool) where
    unsized_located : (x : Option (List Node)) (e : Error) → Is (unsized v known x) e → Is (located_fails v known plain true x) e
    unsized_located None e h = h
    unsized_located (Some x) e h = or_left _ _ (or_left _ _ h)

    unsized_any : {A : Type 0} (f g : A → Bool) → ((x : A) → IsTrue (f x) → IsTrue (g x)) → (xs : List A) → IsTrue (list_any f xs) → IsTrue (list_any g xs)
    unsized_any f g more [] h = h
    unsized_any f g more (x ∷ xs) h = by (f x) (list_any f xs) (more x) (unsized_any f g more xs) h
      where
        by : (a b : Bool) → (IsTrue a → IsTrue (g x)) → (IsTrue b → IsTrue (list_any g xs)) → IsTrue (a || b) → IsTrue (g x || list_any g xs)
        by true b p q h = or_left (g x) (list_any g xs) (p refl)
        by false b p q h = or_right (g x) (list_any g xs) (q h)

    unsized_list : (x : List Part) (e : Error) → Is (parts_unsized v known x) e → Is (new_list_fails v known plain x) e
    unsized_list x e h =
        unsized_any (λ p. unsized v known p.expression e) (λ p. new_part_fails v known plain p e)
        (λ p k. or_right (new_span_fails plain v.address_size p.range e) (located_fails v known plain true p.expression e) (unsized_located p.expression e k)) x h

    pub unsized_lists : (xs : List (List Part)) (e : Error) → Is (lists_unsized v known xs) e → Is (lists_fail v known plain true base xs) e
    unsized_lists xs e h = unsized_any (λ x. parts_unsized v known x e) (λ x. list_fails v known plain true base x e) (λ x k. unsized_list x e k) xs h

  -- a part without a size, and a list without one
  pub part_unsized : (m n : ℕ) (ps : List Part) (i : ℕ) (d : Part) → i < length ps → m ≤ n → (e : Error) → IsTrue (size_fails m e || unsized v known (get_or ps i d).expression e) → Is (parts_unsized_in v known n ps) e
  part_unsized m n ps i d below within e h = by (size_fails m e) (unsized v known (get_or ps i d).expression e) (larger m n within e) (list_any_at (λ p. unsized v known p.expression e) ps i d below) h
    where
      by : (a b : Bool) → (IsTrue a → IsTrue (size_fails n e)) → (IsTrue b → IsTrue (parts_unsized v known ps e)) → IsTrue (a || b) → IsTrue (size_fails n e || parts_unsized v known ps e)
      by true b p q h = or_left (size_fails n e) (parts_unsized v known ps e) (p refl)
      by false b p q h = or_right (size_fails n e) (parts_unsized v known ps e) (q h)

  pub list_unsized : (m n : ℕ) (xs : List (List Part)) (i : ℕ) (x : List Part) → i < length xs → x ≡ get_or xs i x → m ≤ n → (e : Error) → Is (parts_unsized_in v known m x) e → Is (lists_unsized_in v known n xs) e
  list_unsized m n xs i x below is within e h =
      by (size_fails m e) (parts_unsized v known x e) (larger m n within e)
      (λ k. list_any_at (λ y. parts_unsized v known y e) xs i x below (subst (λ y. IsTrue (parts_unsized v known y e)) is k)) h
    where
      by : (a b : Bool) → (IsTrue a → IsTrue (size_fails n e)) → (IsTrue b → IsTrue (lists_unsized v known xs e)) → IsTrue (a || b) → IsTrue (size_fails n e || lists_unsized v known xs e)
      by true b p q h = or_left (size_fails n e) (lists_unsized v known xs e) (p refl)
      by false b p q h = or_right (size_fails n e) (lists_unsized v known xs e) (q h)

-- no fault of a writer hinders sizes
module _ (v : Encoding) (known : Option (ℕ → Option ℕ)) (m : Meaning) where
  pub unsized_quiet : (x : Option (List Node)) → Is (unsized v known x) errors.WriteFault → ⊥
  unsized_quiet None h = let k : false ≡ true = h in cc
  unsized_quiet (Some x) h = let n : Meaning = record m { faults = 0 } in let risen : HasRisen n n = expression_unsized v known n n x (expressions.size_fails v known x) (λ err k. k) errors.WriteFault h in ⊎_elim (λ a. omega (arith, a)) (λ a. omega (arith, a)) risen

  any_quiet : {A : Type 0} (f : A → Bool) → ((x : A) → IsTrue (f x) → ⊥) → (xs : List A) → IsTrue (list_any f xs) → ⊥
  any_quiet f none [] h = let k : false ≡ true = h in cc
  any_quiet f none (x ∷ xs) h = by (f x) (list_any f xs) (none x) (any_quiet f none xs) h
    where
      by : (a b : Bool) → (IsTrue a → ⊥) → (IsTrue b → ⊥) → IsTrue (a || b) → ⊥
      by true b p q h = p refl
      by false b p q h = q h

  pub lists_quiet : (xs : List (List Part)) → Is (lists_unsized v known xs) errors.WriteFault → ⊥
  lists_quiet xs h =
      any_quiet (λ x. parts_unsized v known x errors.WriteFault)
      (λ ps. any_quiet (λ p. unsized v known p.expression errors.WriteFault) (λ p. unsized_quiet p.expression) ps) xs h

not_past : (k m : ℕ) → m < k → nat_le k m ≡ false
not_past k m h = lt-leb k m h

pub count_none : (n : ℕ) → n < 2 ^ 32 → IsNone (count_fails n)
count_none n h errors.ValueTooLarge = not_past (2 ^ 32) n h
count_none n h e = refl

pub size_none : (n : ℕ) → n < 2 ^ 64 → IsNone (size_fails n)
size_none n h errors.ValueTooLarge = not_past (2 ^ 64) n h
size_none n h e = refl

pub memory_or : (f : Error → Bool) (e : Error) → Is f e → MemoryOr f e
memory_or f errors.NoMemory h = tt
memory_or f e h = h

-- what stands before lists has no fault where its size and its words have none
pub head_none : (format : Format) (n size : ℕ) (ns : List ℕ) → n ≡ size → IsNone (size_fails n) → IsNone (length_fails format n) → IsNone (words_fail format ns) → IsNone (head_fails format size ns)
head_none format n size ns is s l ws =
    subst (λ k. IsNone (head_fails format k ns)) is
    (neither_cause (size_fails n) (λ e. length_fails format n e || words_fail format ns e) s (neither_cause (length_fails format n) (words_fail format ns) l ws))

-- the causes of a table of version 5
module _ (loc : Bool) (v : Encoding) (known : Option (ℕ → Option ℕ)) (xs : List (List Part)) where
  abbrev pub body_size : ℕ
  body_size = (body_draft loc v (place_by known) xs).size

  abbrev pub words : List ℕ
  words = entries_of loc v (place_by known) xs

  pub in_count : (e : Error) → Is (count_fails (length xs)) e → Is (entries_fail loc v known xs) e
  in_count e h = or_left (header_fails loc v known xs e) (lists_unsized v known xs e) (or_left (count_fails (length xs) e) _ h)

  in_head : (e : Error) → Is (head_fails v.format body_size words) e → Is (entries_fail loc v known xs) e
  in_head e h = or_left (header_fails loc v known xs e) (lists_unsized v known xs e) (or_right (count_fails (length xs) e) _ h)

  in_sizes : (n : ℕ) → n ≤ body_size → (e : Error) → Is (lists_unsized_in v known n xs) e → Is (entries_fail loc v known xs) e
  in_sizes n within e h =
      by (size_fails n e) (lists_unsized v known xs e)
      (λ k. in_head e (or_left (size_fails body_size e) _ (larger n body_size within e k)))
      (λ k. or_right (header_fails loc v known xs e) (lists_unsized v known xs e) k) h
    where
      by : (a b : Bool) → (IsTrue a → Is (entries_fail loc v known xs) e) → (IsTrue b → Is (entries_fail loc v known xs) e) → IsTrue (a || b) → Is (entries_fail loc v known xs) e
      by true b p q h = p refl
      by false b p q h = q h

  -- sums that pass 64 bits are those of the whole body
  pub size_refused : (m : Meaning) (n : ℕ) → n ≤ body_size → (e : Error) → MemoryOr (lists_unsized_in v known n xs) e → Refused m m (Is (entries_fail loc v known xs)) e
  size_refused m n within errors.NoMemory h = tt
  size_refused m n within errors.WriteFault h = absurd (lists_quiet v known m xs h)
  size_refused m n within e h = in_sizes n within e h

  pub head_refused : (a b : Meaning) (size : ℕ) (ns : List ℕ) → size ≡ body_size → ns ≡ words → (e : Error) → Refused a b (Is (head_fails v.format size ns)) e → Refused a b (Is (entries_fail loc v known xs)) e
  head_refused a b size ns sized placed =
      weaker a b (Is (head_fails v.format size ns)) (Is (entries_fail loc v known xs))
      (λ e h. in_head e (subst (λ k. Is (head_fails v.format body_size k) e) placed (subst (λ n. Is (head_fails v.format n ns) e) sized h)))

  pub header_none : (size : ℕ) (ns : List ℕ) → length xs < 2 ^ 32 → size ≡ body_size → ns ≡ words → IsNone (head_fails v.format size ns) → IsNone (header_fails loc v known xs)
  header_none size ns few sized placed h =
      neither_cause (count_fails (length xs)) (head_fails v.format body_size words) (count_none (length xs) few)
      (subst (λ k. IsNone (head_fails v.format body_size k)) placed (subst (λ n. IsNone (head_fails v.format n ns)) sized h))

  module _ (base plain : Bool) where
    pub entries_cause : (e : Error) → Is (entries_fail loc v known xs) e → Is (table_fails_by loc v known true base plain xs) e
    entries_cause e h =
        by (header_fails loc v known xs e) (lists_unsized v known xs e) (or_left (header_fails loc v known xs e) (lists_fail v known plain true base xs e))
        (λ k. or_right (header_fails loc v known xs e) (lists_fail v known plain true base xs e) (unsized_lists v known plain base xs e k)) h
      where
        by : (a b : Bool) → (IsTrue a → Is (table_fails_by loc v known true base plain xs) e) → (IsTrue b → Is (table_fails_by loc v known true base plain xs) e) → IsTrue (a || b) → Is (table_fails_by loc v known true base plain xs) e
        by true b p q h = p refl
        by false b p q h = q h

    pub lists_cause : (e : Error) → Is (lists_fail v known plain true base xs) e → Is (table_fails_by loc v known true base plain xs) e
    lists_cause e h = or_right (header_fails loc v known xs e) (lists_fail v known plain true base xs e) h

    pub new_none : IsNone (header_fails loc v known xs) → IsNone (lists_fail v known plain true base xs) → IsNone (table_fails_by loc v known true base plain xs)
    new_none h none = neither_cause (header_fails loc v known xs) (lists_fail v known plain true base xs) h none
