-- The units of a file, one after the other, and what is kept of their entries.
use Rattle.std.proofs.Common.{◌≡◌, ◌∙◌, sym, ap, subst, ℕ, ◌<◌, List, [], ◌∷◌, ◌++◌, length, slice_get, Option, Some, None, IsSome, Result, Ok, ◌⊎◌, inl, inr, ⊎_elim, ◌↔◌, arith}
use Rattle.std.specs.List.{Contains}
use Rattle.std.proofs.lemmas.Option.{slice_get_within}
use Rattle.std.specs.Map.{lookup}
use Rattle.std.specs.Prelude.{nat_eq}
use Rattle.dw_base.specs.Entries.{Row}
use Rattle.dw_base.specs.declared.offsets.UnitSectionOffset.{UnitSectionOffset}
use Rattle.dw_entry_ids.proofs.Found.{at_end}
use Rattle.dw_read.specs.Reading.{Reading}
use Rattle.dw_read.specs.declared.error.ReadError.{ReadError}
use Rattle.dw_read_units.specs.Passes.{rows_reading}
use Rattle.dw_read_units.specs.declared.dwarf.Dwarf.{Dwarf}
use Rattle.dw_read_units.specs.declared.dwarf.Unit.{Unit as UnitFields}
use Rattle.dw_sources.specs.declared.convert_error.ConvertError.{ConvertError}
use Rattle.dw_filter.specs.Dependencies.{Dependencies, Kept, Known, Leads, targets}
use Rattle.dw_filter.specs.FileGraph.{CanName, CannotRead, HasUnit, IsWhole, KeptIn, KnownIn, LeadsIn, MissesPlaces, MissesRows, Names, count_at}
use Rattle.dw_filter.specs.Links.{AddsUnit, IsRequired, RefusesUnit}
use Rattle.dw_filter.specs.UnitGraph.{HasEdge, IsKnown, IsRead, Placed, placed_in}
use Rattle.dw_filter.proofs.Growing.{get_here, get_still}
use Rattle.dw_filter.proofs.Kept.{kept_alike}

same_rows : (xs ys : List Row) → ◌≡◌ {A = Result (List Row) ReadError} (Ok xs) (Ok ys) → xs ≡ ys
same_rows xs ys h = cc

module _ {R E : Type 0} (reading : R → Reading) (counts : List ℕ) where
  -- something is so of one of the units, its rows and how many of its entries were read
  abbrev SomeUnit : (UnitFields R E → List Row → ℕ → Type 0) → List (UnitFields R E) → Type 0
  SomeUnit P units = (j : ℕ) × (h : HasUnit reading units j) × P h.unit h.rows (count_at counts j)

  some_more : (P : UnitFields R E → List Row → ℕ → Type 0) (units : List (UnitFields R E)) (u : UnitFields R E) (rows : List Row) → rows_reading reading u.header u.abbreviations ≡ Ok rows
      → SomeUnit P (units ++ u ∷ []) ↔ (SomeUnit P units ⊎ P u rows (count_at counts (length units)))
  some_more P units u rows are = (
    λ s. let h = s.1 in ⊎_elim
        (λ t. inl (s.0, record { unit = h.unit; stands = t; rows = h.rows; are = h.are }, s.2))
        (λ (e : (s.0 ≡ length units) × (u ≡ h.unit)).
        let same : rows ≡ h.rows = same_rows rows h.rows (sym are ∙ ap (λ (v : UnitFields R E). rows_reading reading v.header v.abbreviations) e.1 ∙ h.are) in
        inr (subst (λ (n : ℕ). P u rows (count_at counts n)) e.0
        (subst (λ (xs : List Row). P u xs (count_at counts s.0)) (sym same) (subst (λ (v : UnitFields R E). P v h.rows (count_at counts s.0)) (sym e.1) s.2))))
        (at_end units u h.unit s.0 h.stands),
    λ s. ⊎_elim
        (λ (s : SomeUnit P units). (s.0, record { unit = s.1.unit; stands = get_still units (u ∷ []) s.0 s.1.unit s.1.stands; rows = s.1.rows; are = s.1.are }, s.2))
        (λ (p : P u rows (count_at counts (length units))). (length units, record { unit = u; stands = get_here units u; rows = rows; are = are }, p)) s,
  )

  module _ (d : Dwarf R E) where
    -- the entries of the units so far are known, with their edges
    pub record FileSoFar (units : List (UnitFields R E)) (now : Dependencies) : Type 0 where
      pub known : (q : UnitSectionOffset) → Known (targets now) q ↔ KnownIn reading units counts q
      pub leads : (p q : UnitSectionOffset) → Leads (targets now) p q ↔ LeadsIn reading d units counts p q
      pub required : now.required ≡ []
      pub whole : IsWhole reading d units counts

    no_unit : (j : ℕ) → HasUnit {R = R} {E = E} reading [] j → ⊥
    no_unit j h = let l : j < 0 = slice_get_within [] j h.unit h.stands in omega arith

    pub file_none : (now : Dependencies) → ((p : ℕ) → targets now p ≡ None) → now.required ≡ [] → FileSoFar [] now
    file_none now none required = record {
      known = λ q. (λ k. absurd (let e = none q.0 in let s : IsSome (targets now q.0) = k in not_some (targets now q.0) e s), λ k. absurd (no_unit k.0 k.1));
      leads = λ p q. (λ l. absurd (let e = none p.0 in let s = l.1 in cc), λ k. absurd (no_unit k.0 k.1));
      required = required;
      whole = record { rows = λ i u h. absurd (let l : i < 0 = slice_get_within [] i u h in omega arith); names = λ i h. absurd (no_unit i h) };
    }
      where
        not_some : (o : Option (List UnitSectionOffset)) → o ≡ None → IsSome o → ⊥
        not_some None e s = cc
        not_some (Some x) e s = cc

    whole_more : (units : List (UnitFields R E)) (u : UnitFields R E) → IsWhole reading d units counts → (rows : List Row) → rows_reading reading u.header u.abbreviations ≡ Ok rows
        → ((n : ℕ) (x : Placed) → IsRead (placed_in u.header.offset.0 rows) (count_at counts (length units)) n x → CanName reading d u x.0.entry) → IsWhole reading d (units ++ u ∷ []) counts
    whole_more units u w rows are names = record {
      rows = λ i v is. ⊎_elim
          (λ s. let h = w.rows i v s in record { unit = h.unit; stands = get_still units (u ∷ []) i h.unit h.stands; rows = h.rows; are = h.are })
          (λ (e : (i ≡ length units) × (u ≡ v)). record { unit = v; stands = is; rows = rows; are = subst (λ (x : UnitFields R E). rows_reading reading x.header x.abbreviations ≡ Ok rows) e.1 are })
          (at_end units u v i is);
      names = λ i h n x r. ⊎_elim
          (λ s. w.names i (record { unit = h.unit; stands = s; rows = h.rows; are = h.are }) n x r)
          (λ (e : (i ≡ length units) × (u ≡ h.unit)).
          let same : rows ≡ h.rows = same_rows rows h.rows (sym are ∙ ap (λ (v : UnitFields R E). rows_reading reading v.header v.abbreviations) e.1 ∙ h.are) in
          subst (λ (v : UnitFields R E). CanName reading d v x.0.entry) e.1
          (names n x
          (subst (λ (m : ℕ). IsRead (placed_in u.header.offset.0 rows) (count_at counts m) n x) e.0
          (subst (λ (xs : List Row). IsRead (placed_in u.header.offset.0 xs) (count_at counts i) n x) (sym same)
          (subst (λ (v : UnitFields R E). IsRead (placed_in v.header.offset.0 h.rows) (count_at counts i) n x) (sym e.1) r)))))
          (at_end units u h.unit i h.stands);
    }

    pub file_more : (units : List (UnitFields R E)) (u : UnitFields R E) (now new : Dependencies) → FileSoFar units now → AddsUnit reading d u (count_at counts (length units)) now new → FileSoFar (units ++ u ∷ []) new
    file_more units u now new w a = record {
      known = λ q. let s = some_more (λ v rows n. IsKnown (placed_in v.header.offset.0 rows) n q) units u a.rows a.are in (
        λ k. s.1 (⊎_elim (λ k. inl ((w.known q).0 k)) (λ k. inr k) ((a.grows.known q).0 k)),
        λ k. (a.grows.known q).1 (⊎_elim (λ k. inl ((w.known q).1 k)) (λ k. inr k) (s.0 k)),
      );
      leads = λ p q. let s = some_more (λ v rows n. HasEdge (placed_in v.header.offset.0 rows) (Names reading d v) n p q) units u a.rows a.are in (
        λ k. s.1 (⊎_elim (λ k. inl ((w.leads p q).0 k)) (λ k. inr k) ((a.grows.leads p q).0 k)),
        λ k. (a.grows.leads p q).1 (⊎_elim (λ k. inl ((w.leads p q).1 k)) (λ k. inr k) (s.0 k)),
      );
      required = a.grows.required ∙ w.required;
      whole = whole_more units u w.whole a.rows a.are a.names;
    }

    -- a unit among the others
    module _ (units : List (UnitFields R E)) (i : ℕ) (u : UnitFields R E) (stands : slice_get units i ≡ Some u) (e : ConvertError) where
      pub rows_missed : CannotRead reading u e → MissesRows reading units e
      rows_missed c = record { index = i; unit = u; stands = stands; cannot = c }

      pub places_missed : RefusesUnit reading d u (count_at counts i) e → MissesPlaces reading d units counts e
      places_missed r = record { index = i; unit = record { unit = u; stands = stands; rows = r.rows; are = r.are }; refuses = r.refuses }

    -- what is kept of them
    pub kept_in : (units : List (UnitFields R E)) (now end : Dependencies) (required : List UnitSectionOffset) → ((q : UnitSectionOffset) → Known (targets now) q ↔ KnownIn reading units counts q)
        → ((p q : UnitSectionOffset) → Leads (targets now) p q ↔ LeadsIn reading d units counts p q) → now.required ≡ [] → IsRequired now end required
        → (q : UnitSectionOffset) → Kept end q ↔ KeptIn reading d units counts required q
    kept_in units now end required known leads none is =
        let same : (p : ℕ) → targets now p ≡ targets end p = λ p. ap (λ ks. lookup (nat_eq p) ks) (sym is.known) in
        let all : end.required ≡ required = is.required ∙ ap (λ (xs : List UnitSectionOffset). xs ++ required) none in
        kept_alike (Known (targets end)) (KnownIn reading units counts) (Leads (targets end)) (LeadsIn reading d units counts) (Contains end.required) (Contains required)
        (λ q. (λ k. (known q).0 (subst (λ (o : Option (List UnitSectionOffset)). IsSome o) (sym (same q.0)) k), λ k. subst (λ (o : Option (List UnitSectionOffset)). IsSome o) (same q.0) ((known q).1 k)))
        (λ p q. (λ l. (leads p q).0 (l.0, same p.0 ∙ l.1, l.2), λ l. let m = (leads p q).1 l in (m.0, sym (same p.0) ∙ m.1, m.2)))
        (λ q. (λ c. subst (λ (xs : List UnitSectionOffset). Contains xs q) all c, λ c. subst (λ (xs : List UnitSectionOffset). Contains xs q) (sym all) c))
