-- Units that are converted one after the other.
use Rattle.std.proofs.Common.{◌≡◌, ap, subst, ℕ, zero, suc, ◌+◌, ◌<◌, ◌≤◌, List, [], ◌∷◌, ◌++◌, length, map, take, drop, get_or, All, Bool, Option, None, sym, refl, arith}
use Rattle.std.proofs.lemmas.List.Elements.{All-nil, All-cons}
use Rattle.dw_base.specs.Entries.{Row}
use Rattle.dw_base.specs.Info.{ReadUnit}
use Rattle.dw_base.specs.declared.address.Address.{Address}
use Rattle.dw_base.specs.declared.address.DebugInfoRef.{DebugInfoRef}
use Rattle.dw_base.specs.declared.ids.UnitEntryId.{UnitEntryId}
use Rattle.dw_read.specs.Reading.{Reading}
use Rattle.dw_read_units.specs.declared.dwarf.Dwarf.{Dwarf}
use Rattle.dw_entry_ids.specs.KeptRows.{IsClosed, all_kept}
use Rattle.dw_entry_ids.proofs.KeptLaws.{all_closed}
use Rattle.dw_entry_ids.specs.Units.{AreNumbered}
use Rattle.dw_entry_ids.specs.declared.ids.EntryIds.{EntryIds}
use Rattle.dw_entry_ids.specs.declared.units.NumberedUnit.{NumberedUnit}
use Rattle.dw_tree.specs.UnitValue.{UnitValue}
use Rattle.dw_convert_lines.specs.EntryNames.{Tables}
use Rattle.dw_dwarf.specs.ConvertedUnits.{AreClosed, BecomesUnit, IsRead, UnitsBecome}
use Rattle.dw_dwarf.specs.Readable.{rows_held, rows_or_none}
use Rattle.dw_dwarf.specs.EntryRefs.{entry_behind, info_behind, entry_for, info_for, entry_of, info_of}
use Rattle.dw_dwarf.specs.declared.convert.refs.UnitRefs.{UnitRefs}

-- what holds of a unit's own names holds of them by their places
pub refs_as : (P : (ℕ → Option UnitEntryId) → (ℕ → Option DebugInfoRef) → Type 0) (r : UnitRefs) (ids : EntryIds) (k start first : ℕ) → r.ids.now ≡ ids → r.unit.0 ≡ k → r.start ≡ start → r.first ≡ first → r.behind ≡ None → P (entry_of r) (info_of r) → P (entry_for ids k start) (info_for ids first)
refs_as P r ids k start first a b c d e h =
    subst (λ n. P (entry_for ids k start) (info_for ids n)) d
    (subst (λ n. P (entry_for ids k n) (info_for ids r.first)) c
    (subst (λ n. P (entry_for ids n r.start) (info_for ids r.first)) b
    (subst (λ t. P (entry_for t r.unit.0 r.start) (info_for t r.first)) a
    (subst (λ o. P (entry_behind o r.ids.now r.unit.0 r.start) (info_behind o r.ids.now r.first)) e h))))

-- a list with one of its items between those before and those behind it
pub around : {A : Type 0} (xs : List A) (i : ℕ) (y : A) → i < length xs → xs ≡ take i xs ++ get_or xs i y ∷ drop (suc i) xs
around [] i y l = absurd (omega arith)
around (x ∷ xs) zero y l = refl
around (x ∷ xs) (suc i) y l = ap (λ zs. x ∷ zs) (around xs i y (omega arith))

pub take_all : {A : Type 0} (xs : List A) (i : ℕ) → length xs ≤ i → take i xs ≡ xs
take_all [] zero l = refl
take_all [] (suc i) l = refl
take_all (x ∷ xs) zero l = absurd (omega arith)
take_all (x ∷ xs) (suc i) l = ap (λ zs. x ∷ zs) (take_all xs i (omega arith))

pub length_before : {A : Type 0} (xs : List A) (i : ℕ) → i < length xs → length (take i xs) ≡ i
length_before [] i l = absurd (omega arith)
length_before (x ∷ xs) zero l = refl
length_before (x ∷ xs) (suc i) l = ap suc (length_before xs i (omega arith))

module _ {R E : Type 0} (reading : R → Reading) (d : Dwarf R E) where
  -- all are read, where all entries are kept
  pub all_read : (xs : List (NumberedUnit R E)) (us : List ReadUnit) → AreNumbered all_kept reading d xs us → All (IsRead all_kept reading d) xs
  all_read [] us n = All-nil (IsRead all_kept reading d)
  all_read (x ∷ xs) [] n = absurd n
  all_read (x ∷ xs) (u ∷ us) n = All-cons (IsRead all_kept reading d) _ _ (record { unit = u; numbered = n.0; closed = all_closed u.from u.rows }) (all_read xs us n.1)

  -- and where each entry is kept with its own parent
  pub all_read_kept : (keep : ℕ → Bool) (xs : List (NumberedUnit R E)) (us : List ReadUnit) → AreNumbered keep reading d xs us → AreClosed keep reading (map (λ (n : NumberedUnit R E). n.unit) xs) → All (IsRead keep reading d) xs
  all_read_kept keep [] us n c = All-nil (IsRead keep reading d)
  all_read_kept keep (x ∷ xs) [] n c = absurd n
  all_read_kept keep (x ∷ xs) (u ∷ us) n c =
      let rows : rows_held reading x.unit ≡ u.rows = ap rows_or_none n.0.rows in
      let first = c 0 x.unit (omega arith) in
      All-cons (IsRead keep reading d) _ _ (record {
        unit = u;
        numbered = n.0;
        closed = subst (λ (m : ℕ). IsClosed keep m u.rows) (sym n.0.from) (subst (λ (zs : List Row). IsClosed keep x.unit.header.offset.0 zs) rows first);
      }) (all_read_kept keep xs us n.1 (λ k v l. c (suc k) v (omega (arith, l))))

module _ {R E : Type 0} (keep : ℕ → Bool) (reading : R → Reading) (answers : ℕ → Option Address → Type 0) (d : Dwarf R E) (ids : EntryIds) (first : ℕ) where
  pub one_more : (k : ℕ) (xs : List (NumberedUnit R E)) (t : Tables) (us : List UnitValue) (mid : Tables) (x : NumberedUnit R E) (u : UnitValue) (end : Tables)
      → UnitsBecome keep reading answers d ids first k xs t us mid → BecomesUnit keep reading answers d ids first (k + length xs) x mid u end → UnitsBecome keep reading answers d ids first k (xs ++ x ∷ []) t (us ++ u ∷ []) end
  one_more k [] t [] mid x u end h b =
      let e : k + 0 ≡ k = omega arith in
      (end, subst (λ n. BecomesUnit keep reading answers d ids first n x t u end) e (subst (λ m. BecomesUnit keep reading answers d ids first (k + 0) x m u end) h b), refl)
  one_more k [] t (v ∷ us) mid x u end h b = absurd h
  one_more k (y ∷ xs) t [] mid x u end h b = absurd h
  one_more k (y ∷ xs) t (v ∷ us) mid x u end h b =
      let e : k + suc (length xs) ≡ k + 1 + length xs = omega arith in
      (h.0, h.1, one_more (k + 1) xs h.0 us mid x u end h.2 (subst (λ n. BecomesUnit keep reading answers d ids first n x mid u end) e b))

  -- the units before a number are converted
  pub record Begun (before : List UnitValue) (old : Tables) (found : List (NumberedUnit R E)) (i : ℕ) (now : List UnitValue) (tables : Tables) : Type 0 where
    pub built : List UnitValue
    pub added : now ≡ before ++ built
    pub become : UnitsBecome keep reading answers d ids first 0 (take i found) old built tables
