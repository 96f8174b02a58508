-- The entries of a unit and their edges, one entry after the other.
use Rattle.std.proofs.Common.{◌≡◌, ◌∙◌, sym, ap, subst, ℕ, zero, suc, ◌+◌, ◌<◌, ◌≤◌, List, [], ◌∷◌, ◌++◌, length, Some, slice_get, ◌⊎◌, inl, inr, ⊎_elim, ◌↔◌, append-nil, append_assoc, ap₂, if◌then◌else◌, refl, arith}
use Rattle.std.specs.List.{zip}
use Rattle.std.proofs.lemmas.List.{length-append}
use Rattle.std.proofs.lemmas.Option.{slice_get_within}
use Rattle.std.proofs.lemmas.Slice.Zip.{length-zip}
use Rattle.dw_base.specs.Entries.{ReadEntry, Mark, Open, Null, Row}
use Rattle.dw_base.specs.declared.offsets.UnitSectionOffset.{UnitSectionOffset}
use Rattle.dw_entry_ids.proofs.Found.{at_end}
use Rattle.dw_entry_ids.proofs.Planning.{plans_more}
use Rattle.dw_entry_ids.specs.Ids.{entry_count, is_entry, mark_places, places_among}
use Rattle.dw_entry_ids.specs.Plans.{Plan, parent_behind, plan_of, plans_behind, plans_of}
use Rattle.dw_filter.specs.Dependencies.{Dependencies}
use Rattle.dw_filter.specs.Links.{Grows}
use Rattle.dw_filter.specs.UnitGraph.{AddsEdge, BeginsAt, HasEdge, IsKnown, IsRead, IsUnder, LeadsUp, Placed, placed_in}

-- ---- entries with their places, one row after the other
zip_more : {A B : Type 0} (xs : List A) (ys : List B) (us : List A) (vs : List B) → length xs ≡ length ys → zip (xs ++ us) (ys ++ vs) ≡ zip xs ys ++ zip us vs
zip_more [] [] us vs h = refl
zip_more [] (y ∷ ys) us vs h = absurd (omega (arith, h))
zip_more (x ∷ xs) [] us vs h = absurd (omega (arith, h))
zip_more (x ∷ xs) (y ∷ ys) us vs h = ap (λ zs. (x, y) ∷ zs) (zip_more xs ys us vs (omega (arith, h)))

places_more : (from : ℕ) (xs ys : List Row) → places_among from (xs ++ ys) ≡ places_among from xs ++ places_among from ys
places_more from [] ys = refl
places_more from (x ∷ xs) ys =
    ap (λ l. mark_places (from + x.from) x.mark ++ l) (places_more from xs ys) ∙ sym (append_assoc (mark_places (from + x.from) x.mark) (places_among from xs) (places_among from ys))

mark_count : (place : ℕ) (m : Mark ReadEntry) → length (mark_places place m) ≡ (if is_entry m then 1 else 0)
mark_count place (Open e) = refl
mark_count place Null = refl

places_count : (from : ℕ) (rows : List Row) → length (places_among from rows) ≡ entry_count rows
places_count from [] = refl
places_count from (r ∷ rows) = length-append (mark_places (from + r.from) r.mark) (places_among from rows) ∙ ap₂ ◌+◌ (mark_count (from + r.from) r.mark) (places_count from rows)

plan_count : (n parent : ℕ) (m : Mark ReadEntry) → length (plan_of n parent m) ≡ (if is_entry m then 1 else 0)
plan_count n parent (Open e) = refl
plan_count n parent Null = refl

plans_count : (front rows : List Row) → length (plans_behind front rows) ≡ entry_count rows
plans_count front [] = refl
plans_count front (r ∷ rows) =
    length-append (plan_of (entry_count front) (parent_behind front r.depth) r.mark) (plans_behind (front ++ r ∷ []) rows) ∙ ap₂ ◌+◌ (plan_count (entry_count front) (parent_behind front r.depth) r.mark) (plans_count (front ++ r ∷ []) rows)

all_count : (rows : List Row) → length (plans_of rows) ≡ entry_count rows
unfolding plans_of
all_count rows = plans_count [] rows

pub placed_count : (from : ℕ) (rows : List Row) → length (placed_in from rows) ≡ entry_count rows
placed_count from rows = omega (arith, length-zip (plans_of rows) (places_among from rows), all_count rows, places_count from rows)

-- those of the rows behind others
abbrev pub placed_behind : ℕ → List Row → List Row → List Placed
placed_behind from front more = zip (plans_behind front more) (places_among from more)

pub placed_more : (from : ℕ) (front more : List Row) → placed_in from (front ++ more) ≡ placed_in from front ++ placed_behind from front more
placed_more from front more =
    ap (λ ps. zip ps (places_among from (front ++ more))) (plans_more front more)
    ∙ ap (λ qs. zip (plans_of front ++ plans_behind front more) qs) (places_more from front more)
    ∙ zip_more (plans_of front) (places_among from front) (plans_behind front more) (places_among from more) (all_count front ∙ sym (places_count from front))

no_plans : (ps : List Plan) (qs : List ℕ) → length ps ≡ 0 → zip ps qs ≡ []
no_plans [] qs h = refl
no_plans (p ∷ ps) qs h = absurd (omega (arith, h))

pub none_behind : (from : ℕ) (front more : List Row) → entry_count more ≡ 0 → placed_behind from front more ≡ []
none_behind from front more z = no_plans (plans_behind front more) (places_among from more) (plans_count front more ∙ z)

-- null entries are none
pub placed_nulls : (from : ℕ) (front nulls : List Row) → entry_count nulls ≡ 0 → placed_in from (front ++ nulls) ≡ placed_in from front
placed_nulls from front nulls z = placed_more from front nulls ∙ ap (λ ps. placed_in from front ++ ps) (none_behind from front nulls z) ∙ append-nil (placed_in from front)

-- the entry of a row behind others
abbrev pub placed_at : ℕ → List Row → Row → ReadEntry → Placed
placed_at from front r e = (record { number = entry_count front; parent = parent_behind front r.depth; entry = e }, from + r.from)

pub placed_entry : (from : ℕ) (front : List Row) (r : Row) (e : ReadEntry) → r.mark ≡ Open e → placed_in from (front ++ r ∷ []) ≡ placed_in from front ++ placed_at from front r e ∷ []
placed_entry from front r e m =
    placed_more from front (r ∷ []) ∙ ap (λ (k : Mark ReadEntry). placed_in from front ++ zip (plan_of (entry_count front) (parent_behind front r.depth) k ++ []) (mark_places (from + r.from) k ++ [])) m

-- ---- what stands in lists
pub get_front : {A : Type 0} (xs ys : List A) (n : ℕ) → n < length xs → slice_get (xs ++ ys) n ≡ slice_get xs n
get_front [] ys n l = absurd (omega (arith, l))
get_front (x ∷ xs) ys zero l = refl
get_front (x ∷ xs) ys (suc n) l = get_front xs ys n (omega (arith, l))

pub get_here : {A : Type 0} (xs : List A) (x : A) → slice_get (xs ++ x ∷ []) (length xs) ≡ Some x
get_here [] x = refl
get_here (y ∷ xs) x = get_here xs x

pub get_still : {A : Type 0} (xs ys : List A) (n : ℕ) (x : A) → slice_get xs n ≡ Some x → slice_get (xs ++ ys) n ≡ Some x
get_still xs ys n x h = get_front xs ys n (slice_get_within xs n x h) ∙ h

-- ---- edges of entries to which others are added
-- each entry stands under the root or under one before it
abbrev pub AreBelow : List Placed → Type 0
AreBelow ps = (i : ℕ) (x : Placed) → slice_get ps i ≡ Some x → (x.0.parent ≡ 0) ⊎ (x.0.parent < i)

module _ (ps tail : List Placed) where
  under_still : (x parent : Placed) → IsUnder ps x parent → IsUnder (ps ++ tail) x parent
  under_still x parent u = record { stands = get_still ps tail x.0.parent parent u.stands; not_root = u.not_root }

  under_before : (i : ℕ) (x parent : Placed) → AreBelow ps → slice_get ps i ≡ Some x → IsUnder (ps ++ tail) x parent → IsUnder ps x parent
  under_before i x parent below is u =
      let some : 1 ≤ x.0.parent = u.not_root in
      let within : i < length ps = slice_get_within ps i x is in
      let less : x.0.parent < length ps = ⊎_elim (λ (z : x.0.parent ≡ 0). omega arith) (λ (l : x.0.parent < i). omega arith) (below i x is) in
      record { stands = sym (get_front ps tail x.0.parent less) ∙ u.stands; not_root = u.not_root }

  module _ (names : ReadEntry → UnitSectionOffset → Type 0) where
    edge_still : (x : Placed) (p q : UnitSectionOffset) → AddsEdge ps names x p q → AddsEdge (ps ++ tail) names x p q
    edge_still x p q (inl h) = inl (h.0, ⊎_elim (λ (u : LeadsUp ps x q). inl (u.0, under_still x u.0 u.1, u.2)) (λ n. inr n) h.1)
    edge_still x p q (inr h) = inr ((h.0.0, under_still x h.0.0 h.0.1, h.0.2, h.0.3), h.1)

    edge_before : (i : ℕ) (x : Placed) (p q : UnitSectionOffset) → AreBelow ps → slice_get ps i ≡ Some x → AddsEdge (ps ++ tail) names x p q → AddsEdge ps names x p q
    edge_before i x p q below is (inl h) = inl (h.0, ⊎_elim (λ (u : LeadsUp (ps ++ tail) x q). inl (u.0, under_before i x u.0 below is u.1, u.2)) (λ n. inr n) h.1)
    edge_before i x p q below is (inr h) = inr ((h.0.0, under_before i x h.0.0 below is h.0.1, h.0.2, h.0.3), h.1)

    module _ (count : ℕ) where
      read_still : (n : ℕ) (x : Placed) → IsRead ps count n x → IsRead (ps ++ tail) count n x
      read_still n x r = record { stands = get_still ps tail n x r.stands; behind_root = r.behind_root; counted = r.counted }

      read_before : count < length ps → (n : ℕ) (x : Placed) → IsRead (ps ++ tail) count n x → IsRead ps count n x
      read_before l n x r =
          let at_most : n ≤ count = r.counted in
          record { stands = sym (get_front ps tail n (omega arith)) ∙ r.stands; behind_root = r.behind_root; counted = r.counted }

      -- where those that count are all among the first, the others change nothing
      known_whole : count < length ps → (q : UnitSectionOffset) → IsKnown ps count q ↔ IsKnown (ps ++ tail) count q
      known_whole l q = (
        λ k. (k.0, k.1, read_still k.0 k.1 k.2, k.3),
        λ k. (k.0, k.1, read_before l k.0 k.1 k.2, k.3),
      )

      edges_whole : AreBelow ps → count < length ps → (p q : UnitSectionOffset) → HasEdge ps names count p q ↔ HasEdge (ps ++ tail) names count p q
      edges_whole below l p q = (
        λ k. (k.0, k.1, read_still k.0 k.1 k.2, edge_still k.1 p q k.3),
        λ k. let r = read_before l k.0 k.1 k.2 in (k.0, k.1, r, edge_before k.0 k.1 p q below r.stands k.3),
      )

-- ---- one entry more
module _ (names : ReadEntry → UnitSectionOffset → Type 0) (count : ℕ) (ps : List Placed) (x : Placed) where
  abbrev More : List Placed
  More = ps ++ x ∷ []

  below_more : AreBelow ps → (x.0.parent ≡ 0) ⊎ (x.0.parent < length ps) → AreBelow More
  below_more below h i y is = ⊎_elim
      (λ old. below i y old)
      (λ (e : (i ≡ length ps) × (x ≡ y)). subst (λ (z : Placed). (z.0.parent ≡ 0) ⊎ (z.0.parent < i)) e.1 (subst (λ (n : ℕ). (x.0.parent ≡ 0) ⊎ (x.0.parent < n)) (sym e.0) h))
      (at_end ps x y i is)

  -- it is one of those that were read before, or the last
  pub read_which : (n : ℕ) (y : Placed) → IsRead More count n y → IsRead ps count n y ⊎ (x ≡ y)
  read_which n y r = ⊎_elim (λ s. inl (record { stands = s; behind_root = r.behind_root; counted = r.counted })) (λ e. inr e.1) (at_end ps x y n r.stands)

  module _ (behind : 1 ≤ length ps) (within : length ps ≤ count) where
    read_last : IsRead More count (length ps) x
    read_last = record { stands = get_here ps x; behind_root = behind; counted = within }

    known_one : (q : UnitSectionOffset) → IsKnown More count q ↔ (IsKnown ps count q ⊎ BeginsAt x q)
    known_one q = (
      λ k. ⊎_elim (λ (r : IsRead ps count k.0 k.1). inl (k.0, k.1, r, k.3)) (λ (e : x ≡ k.1). inr (ap (λ (y : Placed). y.1) e ∙ k.3)) (read_which k.0 k.1 k.2),
      λ h. ⊎_elim (λ (k : IsKnown ps count q). (k.0, k.1, read_still ps (x ∷ []) names count k.0 k.1 k.2, k.3)) (λ (b : BeginsAt x q). (length ps, x, read_last, b)) h,
    )

    edges_one : AreBelow ps → (p q : UnitSectionOffset) → HasEdge More names count p q ↔ (HasEdge ps names count p q ⊎ AddsEdge More names x p q)
    edges_one below p q = (
      λ k. ⊎_elim (λ (r : IsRead ps count k.0 k.1). inl (k.0, k.1, r, edge_before ps (x ∷ []) names k.0 k.1 p q below r.stands k.3))
          (λ (e : x ≡ k.1). inr (subst (λ (y : Placed). AddsEdge More names y p q) (sym e) k.3)) (read_which k.0 k.1 k.2),
      λ h. ⊎_elim (λ (k : HasEdge ps names count p q). (k.0, k.1, read_still ps (x ∷ []) names count k.0 k.1 k.2, edge_still ps (x ∷ []) names k.1 p q k.3))
          (λ (a : AddsEdge More names x p q). (length ps, x, read_last, a)) h,
    )

-- the entries so far are known, with their edges
pub record Progress (names : ReadEntry → UnitSectionOffset → Type 0) (count : ℕ) (old : Dependencies) (ps : List Placed) (now : Dependencies) : Type 0 where
  pub below : AreBelow ps
  pub grows : Grows old now (IsKnown ps count) (HasEdge ps names count)

pub no_read : (count n : ℕ) (x : Placed) → IsRead [] count n x → ⊥
no_read count n x r = absurd (let l : n < 0 = slice_get_within [] n x r.stands in omega arith)

pub only_root : (count n : ℕ) (r x : Placed) → IsRead (r ∷ []) count n x → ⊥
only_root count n r x i = let l : n < 1 = slice_get_within (r ∷ []) n x i.stands in let b : 1 ≤ n = i.behind_root in omega arith

module _ (names : ReadEntry → UnitSectionOffset → Type 0) (count : ℕ) (old : Dependencies) where
  pub progress_none : Progress names count old [] old
  progress_none = record {
    below = λ i x h. absurd (let l : i < 0 = slice_get_within [] i x h in omega arith);
    grows = record {
      known = λ q. (λ k. inl k, λ h. ⊎_elim (λ k. k) (λ (k : IsKnown [] count q). absurd (no_read count k.0 k.1 k.2)) h);
      leads = λ p q. (λ k. inl k, λ h. ⊎_elim (λ k. k) (λ (k : HasEdge [] names count p q). absurd (no_read count k.0 k.1 k.2)) h);
      required = refl;
    };
  }

  module _ (ps : List Placed) (x : Placed) (now : Dependencies) (w : Progress names count old ps now) (under : (x.0.parent ≡ 0) ⊎ (x.0.parent < length ps)) where
    -- the root counts for nothing
    pub progress_root : ps ≡ [] → Progress names count old (ps ++ x ∷ []) now
    progress_root e =
        let is : x ∷ [] ≡ ps ++ x ∷ [] = ap (λ (xs : List Placed). xs ++ x ∷ []) (sym e) in
        record {
          below = below_more names count ps x w.below under;
          grows = subst (λ (xs : List Placed). Grows old now (IsKnown xs count) (HasEdge xs names count)) is (record {
            known = λ q. (
              λ k. inl (⊎_elim (λ h. h) (λ (h : IsKnown ps count q). absurd (no_read count h.0 h.1 (subst (λ (xs : List Placed). IsRead xs count h.0 h.1) e h.2))) ((w.grows.known q).0 k)),
              λ h. ⊎_elim (λ k. (w.grows.known q).1 (inl k)) (λ (k : IsKnown (x ∷ []) count q). absurd (only_root count k.0 x k.1 k.2)) h,
            );
            leads = λ p q. (
              λ k. inl (⊎_elim (λ h. h) (λ (h : HasEdge ps names count p q). absurd (no_read count h.0 h.1 (subst (λ (xs : List Placed). IsRead xs count h.0 h.1) e h.2))) ((w.grows.leads p q).0 k)),
              λ h. ⊎_elim (λ k. (w.grows.leads p q).1 (inl k)) (λ (k : HasEdge (x ∷ []) names count p q). absurd (only_root count k.0 x k.1 k.2)) h,
            );
            required = w.grows.required;
          });
        }

    -- an entry that counts
    pub progress_more : (new : Dependencies) (known : UnitSectionOffset → Type 0) (edge : UnitSectionOffset → UnitSectionOffset → Type 0) → 1 ≤ length ps → length ps ≤ count
        → Grows now new known edge → ((q : UnitSectionOffset) → known q ↔ BeginsAt x q) → ((p q : UnitSectionOffset) → edge p q ↔ AddsEdge (ps ++ x ∷ []) names x p q)
        → Progress names count old (ps ++ x ∷ []) new
    progress_more new known edge behind within g k e = record {
      below = below_more names count ps x w.below under;
      grows = record {
        known = λ q. let one = known_one names count ps x behind within q in (
          λ h. ⊎_elim (λ h. ⊎_elim (λ h. inl h) (λ h. inr (one.1 (inl h))) ((w.grows.known q).0 h)) (λ h. inr (one.1 (inr ((k q).0 h)))) ((g.known q).0 h),
          λ h. (g.known q).1 (⊎_elim (λ h. inl ((w.grows.known q).1 (inl h))) (λ h. ⊎_elim (λ h. inl ((w.grows.known q).1 (inr h))) (λ h. inr ((k q).1 h)) (one.0 h)) h),
        );
        leads = λ p q. let one = edges_one names count ps x behind within w.below p q in (
          λ h. ⊎_elim (λ h. ⊎_elim (λ h. inl h) (λ h. inr (one.1 (inl h))) ((w.grows.leads p q).0 h)) (λ h. inr (one.1 (inr ((e p q).0 h)))) ((g.leads p q).0 h),
          λ h. (g.leads p q).1 (⊎_elim (λ h. inl ((w.grows.leads p q).1 (inl h))) (λ h. ⊎_elim (λ h. inl ((w.grows.leads p q).1 (inr h))) (λ h. inr ((e p q).1 h)) (one.0 h)) h),
        );
        required = g.required ∙ w.grows.required;
      };
    }

  -- where all that count are there, those that count are among them
  pub read_there : (ps tail : List Placed) → count < length ps ⊎ (tail ≡ []) → (n : ℕ) (x : Placed) → IsRead (ps ++ tail) count n x → IsRead ps count n x
  read_there ps tail (inl l) n x r = read_before ps tail names count l n x r
  read_there ps tail (inr e) n x r = subst (λ (xs : List Placed). IsRead xs count n x) (ap (λ (xs : List Placed). ps ++ xs) e ∙ append-nil ps) r

  -- where all that count are there, the others change nothing
  pub progress_whole : (ps tail : List Placed) (now : Dependencies) → Progress names count old ps now → count < length ps ⊎ (tail ≡ []) → Grows old now (IsKnown (ps ++ tail) count) (HasEdge (ps ++ tail) names count)
  progress_whole ps tail now w (inl l) = record {
    known = λ q. let same = known_whole ps tail names count l q in (
      λ h. ⊎_elim (λ h. inl h) (λ h. inr (same.0 h)) ((w.grows.known q).0 h),
      λ h. (w.grows.known q).1 (⊎_elim (λ h. inl h) (λ h. inr (same.1 h)) h),
    );
    leads = λ p q. let same = edges_whole ps tail names count w.below l p q in (
      λ h. ⊎_elim (λ h. inl h) (λ h. inr (same.0 h)) ((w.grows.leads p q).0 h),
      λ h. (w.grows.leads p q).1 (⊎_elim (λ h. inl h) (λ h. inr (same.1 h)) h),
    );
    required = w.grows.required;
  }
  progress_whole ps tail now w (inr e) =
      subst (λ (xs : List Placed). Grows old now (IsKnown xs count) (HasEdge xs names count)) (sym (append-nil ps) ∙ ap (λ (xs : List Placed). ps ++ xs) (sym e)) w.grows
