-- What a file becomes is one thing, but for what is left of the last sequences of line programs.
use Rattle.std.proofs.Common.{Bool, ◌≡◌, ◌∙◌, sym, ap, ap₂, subst, ℕ, ◌+◌, List, [], ◌∷◌, length, map, Option, Some, None, refl}
use Rattle.dw_base.specs.Info.{ReadUnit}
use Rattle.dw_base.specs.declared.address.Address.{Address}
use Rattle.dw_base.specs.declared.address.DebugInfoRef.{DebugInfoRef}
use Rattle.dw_base.specs.declared.ids.UnitEntryId.{UnitEntryId}
use Rattle.dw_read.specs.Reading.{Reading, left}
use Rattle.dw_read_units.specs.Passes.{units_there}
use Rattle.dw_read_units.specs.Walks.{units_in}
use Rattle.dw_read_units.specs.declared.dwarf.Dwarf.{Dwarf}
use Rattle.dw_entry_ids.specs.Ids.{ids_at, id_among}
use Rattle.dw_entry_ids.specs.KeptRows.{all_kept}
use Rattle.dw_entry_ids.specs.Units.{IsNumbered, AreNumbered}
use Rattle.dw_entry_ids.specs.declared.ids.EntryIds.{EntryIds}
use Rattle.dw_entry_ids.specs.declared.units.NumberedUnit.{NumberedUnit}
use Rattle.dw_tree.specs.UnitValue.{UnitValue}
use Rattle.dw_convert_lines.specs.EntryNames.{Tables}
use Rattle.dw_dwarf.specs.ConvertedDwarf.{IsConverted, no_strings}
use Rattle.dw_dwarf.specs.ConvertedUnit.{ConvertsUnit}
use Rattle.dw_dwarf.specs.ConvertedUnits.{UnitBecomes, UnitsBecome}
use Rattle.dw_dwarf.specs.DwarfValue.{DwarfValue}
use Rattle.dw_dwarf.specs.EntryRefs.{id_at, entry_for, info_for, entry_from, own_entry}
use Rattle.dw_dwarf.specs.Sums.{sum}
use Rattle.dw_dwarf.specs.NewUnits.{unit_for, unit_with}
use Rattle.dw_dwarf_laws.proofs.Converted.{AreBuiltAlike, IsClosedUnit, settled_unit, unit_once}
use Rattle.dw_dwarf_laws.proofs.ConvertedExpressions.{AnswersOnce}
use Rattle.dw_dwarf_laws.proofs.Results.{same_some}
use Rattle.dw_dwarf_laws.proofs.ConvertedUnits.{AreSameSections, numbered_alike, numbered_encoding}

abbrev pub AreClosed : List UnitValue → Type 0
AreClosed [] = Unit {0}
AreClosed (u ∷ us) = IsClosedUnit u × AreClosed us

-- units that were built alike, with the strings behind them
pub record AreAllAlike (us vs : List UnitValue) (new new_too : Tables) : Type 0 where
  pub closed : AreClosed us
  pub closed_too : AreClosed vs
  pub units : map settled_unit us ≡ map settled_unit vs
  pub tables : new ≡ new_too

-- a Dwarf with its line programs as writers look at them
abbrev pub settled_dwarf : DwarfValue → DwarfValue
settled_dwarf d = record d { units = map settled_unit d.units }

-- two Dwarfs with no open sequence that are the same else
pub record AreSameDwarfs (one two : DwarfValue) : Type 0 where
  pub closed : AreClosed one.units
  pub closed_too : AreClosed two.units
  pub same : settled_dwarf one ≡ settled_dwarf two

-- entries are looked up alike
module _ (one two : EntryIds) (same : (p : ℕ) → ids_at one p ≡ ids_at two p) where
  id_same : (o : Option ℕ) → id_at one o ≡ id_at two o
  id_same None = refl
  id_same (Some p) = same p

  entries_same : (k m n : ℕ) → m ≡ n → entry_for one k m ≡ entry_for two k n
  entries_same k m n e = λ i p. (ap (own_entry None k) (id_same (sum m p) ∙ ap (λ a. id_at two (sum a p)) e)) i

  infos_same : (first : ℕ) → info_for one first ≡ info_for two first
  infos_same first = λ i p. ap (entry_from None first) (same p) i

module _ {R E : Type 0} (keep : ℕ → Bool) (reading : R → Reading) (answers : ℕ → Option Address → Type 0) (functional : AnswersOnce answers) (d e : Dwarf R E) (sections : AreSameSections reading d e) where
  module _ (entries : ℕ → Option UnitEntryId) (infos : ℕ → Option DebugInfoRef) (x y : NumberedUnit R E) (r : ReadUnit) (m : IsNumbered keep reading d x r) (n : IsNumbered keep reading e y r) where
    unit_of_once : (old : Tables) (a b : UnitValue) (new new_too : Tables) → UnitBecomes keep reading answers d entries infos x old a new → UnitBecomes keep reading answers e entries infos y old b new_too → AreBuiltAlike a b new new_too
    unit_of_once old a b new new_too h k =
        let u = h.read in
        let v = k.read in
        let same : AreSameSections reading u.dwarf.now v.dwarf.now = subst (λ f. AreSameSections reading f v.dwarf.now) (sym h.of.file) (subst (λ f. AreSameSections reading d f) (sym k.of.file) sections) in
        let mine : IsNumbered keep reading u.dwarf.now x r = subst (λ f. IsNumbered keep reading f x r) (sym h.of.file) m in
        let other : IsNumbered keep reading v.dwarf.now y r = subst (λ f. IsNumbered keep reading f y r) (sym k.of.file) n in
        let order = m.order ∙ ap (λ (i : Reading). i.is_big) sections.debug_info ∙ sym n.order in
        let alike = numbered_alike keep reading u v same x y h.of.unit k.of.unit r mine other order in
        let encoding = numbered_encoding keep reading u v same x y h.of.unit k.of.unit r mine other order in
        let count : x.entries ≡ y.entries = m.count ∙ sym n.count in
        let fresh : unit_for y ≡ unit_for x = λ i. unit_with (sym encoding i) (sym count i) in
        unit_once keep reading answers functional entries infos u v alike (unit_for x) a b old new new_too h.becomes (subst (λ w. ConvertsUnit None keep reading answers entries infos v w old b new_too) fresh k.becomes)

  module _ (one two : EntryIds) (found : (p : ℕ) → ids_at one p ≡ ids_at two p) (first : ℕ) where
    pub units_once : (k : ℕ) (xs ys : List (NumberedUnit R E)) (rs : List ReadUnit) (t : Tables) (us vs : List UnitValue) (new new_too : Tables) → AreNumbered keep reading d xs rs → AreNumbered keep reading e ys rs
        → UnitsBecome keep reading answers d one first k xs t us new → UnitsBecome keep reading answers e two first k ys t vs new_too → AreAllAlike us vs new new_too
    units_once k [] [] [] t [] [] new new_too m n a b = record { closed = tt; closed_too = tt; units = refl; tables = a ∙ sym b }
    units_once k [] [] [] t (u ∷ us) vs new new_too m n a b = absurd a
    units_once k [] [] [] t [] (v ∷ vs) new new_too m n a b = absurd b
    units_once k [] ys (r ∷ rs) t us vs new new_too m n a b = absurd m
    units_once k (x ∷ xs) ys [] t us vs new new_too m n a b = absurd m
    units_once k xs [] (r ∷ rs) t us vs new new_too m n a b = absurd n
    units_once k xs (y ∷ ys) [] t us vs new new_too m n a b = absurd n
    units_once k (x ∷ xs) (y ∷ ys) (r ∷ rs) t [] vs new new_too m n a b = absurd a
    units_once k (x ∷ xs) (y ∷ ys) (r ∷ rs) t (u ∷ us) [] new new_too m n a b = absurd b
    units_once k (x ∷ xs) (y ∷ ys) (r ∷ rs) t (u ∷ us) (v ∷ vs) new new_too m n a b =
        let offset : x.unit.header.offset.0 ≡ y.unit.header.offset.0 = sym m.0.from ∙ n.0.from in
        let moved : UnitBecomes keep reading answers e (entry_for one k x.unit.header.offset.0) (info_for one first) y t v b.0 =
        subst (λ f. UnitBecomes keep reading answers e f (info_for one first) y t v b.0) (sym (entries_same one two found k x.unit.header.offset.0 y.unit.header.offset.0 offset))
        (subst (λ g. UnitBecomes keep reading answers e (entry_for two k y.unit.header.offset.0) g y t v b.0) (sym (infos_same one two found first)) b.1) in
        let s = unit_of_once (entry_for one k x.unit.header.offset.0) (info_for one first) x y r m.0 n.0 t u v a.0 b.0 a.1 moved in
        let more = units_once (k + 1) xs ys rs b.0 us vs new new_too m.1 n.1 (subst (λ z. UnitsBecome keep reading answers d one first (k + 1) xs z us new) s.tables a.2) b.2 in
        record {
          closed = (s.closed, more.closed);
          closed_too = (s.closed_too, more.closed_too);
          units = ap₂ (λ (z : UnitValue) (zs : List UnitValue). z ∷ zs) s.unit more.units;
          tables = more.tables;
        }

module _ {R E : Type 0} (reading : R → Reading) (answers : ℕ → Option Address → Type 0) (functional : AnswersOnce answers) (d e : Dwarf R E) (sections : AreSameSections reading d e) where
  -- Readers of the same sections convert them to the same Dwarf.
  pub converted_alike : (one two : DwarfValue) → IsConverted reading answers d one → IsConverted reading answers e two → AreSameDwarfs one two
  converted_alike one two h k =
      let info = sections.debug_info in
      let there : units_there reading d ≡ units_there reading e = λ i. units_in (length (left (info i))) (info i).is_big (left (sections.debug_abbrev i)) (info i).place (left (info i)) in
      let units : k.units.read.units ≡ h.units.read.units = same_some (units_there reading d) k.units.read.units h.units.read.units (there ∙ k.units.read.are) h.units.read.are in
      let found : (p : ℕ) → ids_at h.units.found.ids p ≡ ids_at k.units.found.ids p = λ p. h.units.read.ids p ∙ ap (λ us. id_among 0 us p) (sym units) ∙ sym (k.units.read.ids p) in
      let s = units_once all_kept reading answers functional d e sections h.units.found.ids k.units.found.ids found 0 0 h.units.found.units.items k.units.found.units.items h.units.read.units no_strings h.units.built k.units.built _ _ h.units.read.numbered
      (subst (λ us. AreNumbered all_kept reading e k.units.found.units.items us) units k.units.read.numbered) h.units.become k.units.become in
      record {
        closed = subst AreClosed (sym h.units.added) s.closed;
        closed_too = subst AreClosed (sym k.units.added) s.closed_too;
        same =
            let built : map settled_unit one.units ≡ map settled_unit two.units = ap (map settled_unit) h.units.added ∙ s.units ∙ sym (ap (map settled_unit) k.units.added) in
            let programs : one.line_programs ≡ two.line_programs = h.programs ∙ sym k.programs in
            λ i. record { units = built i; line_programs = programs i; line_strings = (s.tables i).line_strings; strings = (s.tables i).strings };
      }

-- A file that was read becomes one Dwarf.
pub converted_once : {R E : Type 0} (reading : R → Reading) (answers : ℕ → Option Address → Type 0) (functional : (n : ℕ) (a b : Option Address) → answers n a → answers n b → a ≡ b) (d : Dwarf R E) (one two : DwarfValue)
    → IsConverted reading answers d one → IsConverted reading answers d two → AreSameDwarfs one two
converted_once reading answers functional d one two h k =
    converted_alike reading answers functional d d (record {
      debug_abbrev = refl;
      debug_str = refl;
      debug_line_str = refl;
      debug_line = refl;
      debug_ranges = refl;
      debug_rnglists = refl;
      debug_loc = refl;
      debug_loclists = refl;
      debug_info = refl;
      debug_addr = refl;
      debug_str_offsets = refl;
    }) one two h k
