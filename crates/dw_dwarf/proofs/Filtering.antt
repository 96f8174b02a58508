-- What a filter keeps of a file, as conversions take it.
use Rattle.std.proofs.Common.{◌≡◌, ◌∙◌, ◌⊎◌, sym, ap, subst, ℕ, suc, None, List, [], ◌∷◌, All, Bool, Bor, Result, Ok, Err, length, map, slice_index_or, ◌↔◌, refl}
use Rattle.std.specs.List.{Contains}
use Rattle.std.specs.List.Sorted.{IsStrictlyIncreasing}
use Rattle.dw_base.specs.Entries.{Row}
use Rattle.dw_base.specs.declared.offsets.UnitSectionOffset.{UnitSectionOffset}
use Rattle.dw_entry_ids.specs.FirstUnits.{AreFirstUnits}
use Rattle.dw_base.specs.Info.{ReadUnit}
use Rattle.dw_entry_ids.proofs.KeptLaws.{units_all}
use Rattle.dw_entry_ids.specs.Ids.{FindsEntries, id_among}
use Rattle.dw_entry_ids.specs.KeptRows.{IsClosed, all_kept, kept_unit}
use Rattle.dw_entry_ids.specs.KeptUnits.{all_rows}
use Rattle.dw_entry_ids.specs.Units.{NumbersUnits}
use Rattle.dw_entry_ids.specs.declared.units.NumberedUnit.{NumberedUnit}
use Rattle.dw_entry_ids.specs.declared.units.NumberedUnits.{NumberedUnits}
use Rattle.dw_read.specs.Reasons.{◌=>>◌}
use Rattle.dw_sources.specs.ConvertErrors.{from_read}
use Rattle.dw_dwarf.specs.FileUnits.{AreFound}
use Rattle.dw_entry_ids.specs.Plans.{plans_of}
use Rattle.dw_filter.specs.FileGraph.{IsClosedIn, KeptIn, MissesPlaces, MissesRows}
use Rattle.dw_filter.specs.declared.unit_section.FilterUnitSection.{FilterUnitSection}
use Rattle.dw_read.specs.Reading.{Reading}
use Rattle.dw_read.specs.declared.error.ReadError.{ReadError}
use Rattle.dw_read_units.specs.Passes.{rows_reading}
use Rattle.dw_read_units.specs.declared.dwarf.Dwarf.{Dwarf}
use Rattle.dw_read_units.specs.declared.dwarf.Unit.{Unit as UnitFields}
use Rattle.dw_sources.specs.declared.convert_error.ConvertError.{ConvertError}
use Rattle.dw_dwarf.specs.ConvertedUnits.{AreClosed}
use Rattle.dw_dwarf.specs.FilteredDwarf.{AreFilterUnits, AreKept, CannotReadEntries}
use Rattle.dw_dwarf.specs.Readable.{rows_held, rows_or_none}

-- no rows have no entry
none_closed : (keep : ℕ → Bool) (from : ℕ) → IsClosed keep from []
unfolding plans_of
none_closed keep from [] back p place above e = absurd (cc)
none_closed keep from (q ∷ front) back p place above e = absurd (cc)

module _ {R E : Type 0} (reading : R → Reading) where
  -- a unit whose rows can't be read has none
  closed_one : (keep : ℕ → Bool) (u : UnitFields R E) → IsClosedIn reading keep u → IsClosed keep u.header.offset.0 (rows_held reading u)
  closed_one keep u h = go (rows_reading reading u.header u.abbreviations) refl
    where
      go : (r : Result (List Row) ReadError) → rows_reading reading u.header u.abbreviations ≡ r → IsClosed keep u.header.offset.0 (rows_held reading u)
      go (Ok rows) e = subst (λ (xs : List Row). IsClosed keep u.header.offset.0 xs) (sym (ap rows_or_none e)) (h rows e)
      go (Err y) e = subst (λ (xs : List Row). IsClosed keep u.header.offset.0 xs) (sym (ap rows_or_none e)) (none_closed keep u.header.offset.0)

  -- a row that can't be read stands in one of the units
  pub rows_missed : (us : List (UnitFields R E)) (e : ReadError) → all_rows reading us ≡ Err e → MissesRows reading us (from_read e)
  rows_missed [] e h = absurd (cc)
  rows_missed (u ∷ us) e h = here (λ y q. rows_missed us y q) (rows_reading reading u.header u.abbreviations) refl h
    where
      behind : ((y : ReadError) → all_rows reading us ≡ Err y → MissesRows reading us (from_read y)) → (rows : List Row) (r : Result (List (List Row)) ReadError) → all_rows reading us ≡ r → (r =>> λ more. Ok (rows ∷ more)) ≡ Err e → MissesRows reading (u ∷ us) (from_read e)
      behind less rows (Ok more) q k = absurd (cc)
      behind less rows (Err y) q k =
          let same : y ≡ e = cc in
          let w = less y q in
          record { index = suc w.index; unit = w.unit; stands = w.stands; cannot = record { reason = w.cannot.reason; read = w.cannot.read; is = ap from_read (sym same) ∙ w.cannot.is } }

      here : ((y : ReadError) → all_rows reading us ≡ Err y → MissesRows reading us (from_read y)) → (r : Result (List Row) ReadError) → rows_reading reading u.header u.abbreviations ≡ r → (r =>> λ rows. all_rows reading us =>> λ more. Ok (rows ∷ more)) ≡ Err e → MissesRows reading (u ∷ us) (from_read e)
      here less (Ok rows) q k = behind less rows (all_rows reading us) refl k
      here less (Err y) q k =
          let same : y ≡ e = cc in
          record { index = 0; unit = u; stands = refl; cannot = record { reason = y; read = q; is = ap from_read (sym same) } }

  -- all units with all entries
  pub all_found : (d : Dwarf R E) (r : NumberedUnits R E) → NumbersUnits reading d r → AreFound reading d None r
  all_found d r h =
      let all : map (kept_unit all_kept) h.units ≡ h.units = units_all h.units in
      record {
        given = map (λ (n : NumberedUnit R E). n.unit) r.units.items;
        numbered = record {
          units = h.units;
          numbered = h.numbered;
          held = refl;
          ids = λ p. h.ids p ∙ ap (λ (us : List ReadUnit). id_among 0 us p) (sym all);
          entries = subst (λ (us : List ReadUnit). FindsEntries r.ids us) (sym all) h.entries;
        };
        whole = λ e. h;
      }

  pub closed_held : (keep : ℕ → Bool) (us : List (UnitFields R E)) → All (IsClosedIn reading keep) us → AreClosed keep reading us
  closed_held keep us h = λ k d l. closed_one keep (slice_index_or us k d) (h k d l)

  module _ (f : FilterUnitSection R E) (d : Bor (Dwarf R E)) (counts : List ℕ) (us : List (UnitFields R E)) (p : d ≡ f.dwarf) (q : counts ≡ f.counts.items) where
    pub units_are : AreFirstUnits reading d.now (length counts) us → AreFilterUnits reading f us
    units_are h =
        subst (λ (x : Bor (Dwarf R E)). AreFirstUnits reading x.now (length f.counts.items) us) p
        (subst (λ (n : List ℕ). AreFirstUnits reading d.now (length n) us) q h)

    pub keeps_are : (vs : List (UnitFields R E)) (required kept : List UnitSectionOffset) → vs ≡ us → required ≡ f.required.items → IsStrictlyIncreasing (map (λ (e : UnitSectionOffset). e.0) kept) → ((x : UnitSectionOffset) → Contains kept x ↔ KeptIn reading d.now vs counts required x) → AreKept reading f us kept
    keeps_are vs required kept v r s h = record {
      sorted = s;
      are = λ x.
          subst (λ (y : Bor (Dwarf R E)). Contains kept x ↔ KeptIn reading y.now us f.counts.items f.required.items x) p
          (subst (λ (n : List ℕ). Contains kept x ↔ KeptIn reading d.now us n f.required.items x) q
          (subst (λ (m : List UnitSectionOffset). Contains kept x ↔ KeptIn reading d.now us counts m x) r
          (subst (λ (ws : List (UnitFields R E)). Contains kept x ↔ KeptIn reading d.now ws counts required x) v (h x))));
    }

    pub entries_missed : (vs : List (UnitFields R E)) (e : ConvertError) → vs ≡ us → AreFilterUnits reading f us → MissesRows reading vs e ⊎ MissesPlaces reading d.now vs counts e → CannotReadEntries reading f e
    entries_missed vs e v h why = record {
      units = us;
      are = h;
      why =
          subst (λ (x : Bor (Dwarf R E)). MissesRows reading us e ⊎ MissesPlaces reading x.now us f.counts.items e) p
          (subst (λ (n : List ℕ). MissesRows reading us e ⊎ MissesPlaces reading d.now us n e) q
          (subst (λ (ws : List (UnitFields R E)). MissesRows reading ws e ⊎ MissesPlaces reading d.now ws counts e) v why));
    }
