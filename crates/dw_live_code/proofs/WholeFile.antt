-- All units of a file, as the grammar reads them.
use Rattle.std.proofs.Common.{◌≡◌, ◌∙◌, sym, ap, subst, ℕ, List, [], ◌∷◌, ◌++◌, map, Bool, true, false, Ok, Err, Result, inl, inr, append-nil, append_assoc, All, slice_index_or, refl}
use Rattle.dw_base.specs.Entries.{Row}
use Rattle.dw_base.specs.Info.{ReadUnit}
use Rattle.dw_read.specs.Fields.{header_of}
use Rattle.dw_read.specs.Reading.{IsReading, Reading}
use Rattle.dw_read.specs.UnitHeaders.{IsOver}
use Rattle.dw_read.specs.declared.error.ReadError.{ReadError}
use Rattle.dw_read.specs.declared.unit_header.UnitHeadersIter.{UnitHeadersIter}
use Rattle.dw_read_units.proofs.UnitParts.{unit_whole}
use Rattle.dw_read_units.proofs.UnitWalk.{WalkedUnits, walked_end, walked_more, walked_none}
use Rattle.dw_read_units.specs.Passes.{rows_reading, unit_reading, units_reading}
use Rattle.dw_read_units.specs.declared.dwarf.Dwarf.{Dwarf}
use Rattle.dw_read_units.specs.declared.dwarf.Unit.{Unit as UnitFields}
use Rattle.dw_entry_ids.specs.FirstUnits.{AreUnitsFrom}
use Rattle.dw_entry_ids.specs.KeptRows.{IsClosed}
use Rattle.dw_entry_ids.specs.Plans.{plans_of}
use Rattle.dw_entry_ids.specs.Units.{AreNumbered, IsNumbered}
use Rattle.dw_entry_ids.specs.declared.units.NumberedUnit.{NumberedUnit}
use Rattle.dw_filter.specs.FileGraph.{IsClosedIn}
use Rattle.dw_dwarf.specs.ConvertedUnits.{AreClosed}
use Rattle.dw_dwarf.specs.Readable.{rows_held, rows_or_none}
use Rattle.dw_live_code.specs.FileUnits.{AreAllUnits}

module _ {R E : Type 0} (keep : ℕ → Bool) (reading : R → Reading) (d : Dwarf R E) where
  abbrev units_in : List (NumberedUnit R E) → List (UnitFields R E)
  units_in xs = map (λ (n : NumberedUnit R E). n.unit) xs

  -- what is numbered is the unit of its header
  unit_read : (x : NumberedUnit R E) (r : ReadUnit) → IsNumbered keep reading d x r → unit_reading reading d x.unit.header ≡ Ok r
  unit_read x r n =
      let h = x.unit.header in
      let is : ReadUnit = record { from = h.offset.0; header = header_of h.fields; table = x.unit.abbreviations; rows = r.rows } in
      let same : is ≡ r =
      ap (λ (m : ℕ). let u : ReadUnit = record { from = m; header = header_of h.fields; table = x.unit.abbreviations; rows = r.rows } in u) (sym n.from)
      ∙ ap (λ t. let u : ReadUnit = record { from = r.from; header = t; table = x.unit.abbreviations; rows = r.rows } in u) (sym n.header)
      ∙ ap (λ t. let u : ReadUnit = record { from = r.from; header = r.header; table = t; rows = r.rows } in u) (sym n.table) in
      unit_whole reading d h x.unit r.rows n.unit n.rows ∙ ap (λ (u : ReadUnit). Ok u) same

  module _ (law : (x : R) → IsReading (reading x)) where
    walked_from : (now after : UnitHeadersIter R E) (front : List ReadUnit) (xs : List (NumberedUnit R E)) (rs : List ReadUnit) → WalkedUnits reading d now front → AreUnitsFrom reading d now (units_in xs) after → AreNumbered keep reading d xs rs → WalkedUnits reading d after (front ++ rs)
    walked_from now after front [] [] w a n = subst (λ (us : List ReadUnit). WalkedUnits reading d after us) (sym (append-nil front)) (subst (λ (h : UnitHeadersIter R E). WalkedUnits reading d h front) a w)
    walked_from now after front [] (r ∷ rs) w a n = absurd n
    walked_from now after front (x ∷ xs) [] w a n = absurd n
    walked_from now after front (x ∷ xs) (r ∷ rs) w a n =
        let next : UnitHeadersIter R E = a.0 in
        let more = walked_more reading d now next front x.unit.header r (law now.input) (law next.input) (law x.unit.header.body) w a.1.passes (unit_read x r n.0) in
        subst (λ (us : List ReadUnit). WalkedUnits reading d after us) (append_assoc front (r ∷ []) rs) (walked_from next after (front ++ r ∷ []) xs rs more a.2 n.1)

    -- where all units are numbered, they are those that the grammar reads
    pub all_read : (xs : List (NumberedUnit R E)) (rs : List ReadUnit) → AreAllUnits reading d (units_in xs) → AreNumbered keep reading d xs rs → units_reading reading d ≡ Ok rs
    all_read xs rs a n =
        go (walked_from a.are.begin a.behind [] xs rs (walked_none reading d a.are.begin a.are.begins a.are.begun) a.are.are n) a.over
      where
        go : WalkedUnits reading d a.behind rs → IsOver reading a.behind → units_reading reading d ≡ Ok rs
        go w (inl failed) = absurd (let clash : true ≡ false = sym failed ∙ w.going in cc)
        go w (inr none) = walked_end reading d a.behind rs w none

-- no rows have no entry
none_closed : (keep : ℕ → Bool) (from : ℕ) → IsClosed keep from []
unfolding plans_of
none_closed keep from [] back p place above e = absurd (cc)
none_closed keep from (q ∷ front) back p place above e = absurd (cc)

module _ {R E : Type 0} (reading : R → Reading) where
  -- a unit whose rows can't be read has none
  closed_one : (keep : ℕ → Bool) (u : UnitFields R E) → IsClosedIn reading keep u → IsClosed keep u.header.offset.0 (rows_held reading u)
  closed_one keep u h = go (rows_reading reading u.header u.abbreviations) refl
    where
      go : (r : Result (List Row) ReadError) → rows_reading reading u.header u.abbreviations ≡ r → IsClosed keep u.header.offset.0 (rows_held reading u)
      go (Ok rows) e = subst (λ (xs : List Row). IsClosed keep u.header.offset.0 xs) (sym (ap rows_or_none e)) (h rows e)
      go (Err y) e = subst (λ (xs : List Row). IsClosed keep u.header.offset.0 xs) (sym (ap rows_or_none e)) (none_closed keep u.header.offset.0)

  pub all_closed : (keep : ℕ → Bool) (us : List (UnitFields R E)) → All (IsClosedIn reading keep) us → AreClosed keep reading us
  all_closed keep us h = λ k d l. closed_one keep (slice_index_or us k d) (h k d l)
