-- Whether a Dwarf can be written doesn't hang on what its line programs have beside what writers look at.
use Rattle.std.proofs.Common.{◌≡◌, ◌∙◌, sym, ap, ap₂, subst, ℕ, suc, List, [], ◌∷◌, map, Bool, true, false, Option, Some, None, refl, ◌⊎◌, inl, inr}
use Rattle.std.specs.Prelude.{◌==◌, ◌||◌, IsFalse, if◌then◌else◌}
use Rattle.dw_base.specs.declared.error.Error.{Error}
use Rattle.dw_line.specs.LinePrograms.{is_in_sequence}
use Rattle.dw_line.specs.ProgramTexts.{ProgramValue}
use Rattle.dw_line.specs.declared.row.LineRow.{LineRow}
use Rattle.dw_tree.specs.Built.{Numbered, Starts, at_begin, settled_at, numbered_from}
use Rattle.dw_tree.specs.Elsewhere.{Elsewhere, Ends, past_elsewhere, past_parts}
use Rattle.dw_tree.specs.Locations.{location_drafts, location_part}
use Rattle.dw_tree.specs.Pending.{Kept, AreInRow, units_draft, kept_at, kept_offsets, info_of, past_kept, draft_at}
use Rattle.dw_tree.specs.Places.{Offsets, info_from}
use Rattle.dw_tree.specs.ReferenceFaults.{references_fail}
use Rattle.dw_tree.specs.UnitFaults.{holes_fail}
use Rattle.dw_tree.specs.UnitValue.{UnitValue}
use Rattle.dw_tree.specs.Valid.{IsWritableAt, AreWritable, ReferencesLead}
use Rattle.dw_tree.specs.Written.{past_table}
use Rattle.dw_writer.specs.Drafts.{Draft, then_draft}
use Rattle.dw_dwarf.specs.DwarfValue.{DwarfValue}
use Rattle.dw_dwarf.specs.Valid.{IsValid, found_from, empty_ends, settled_units}
use Rattle.dw_dwarf_laws.proofs.Conversions.{AreClosed, AreSameDwarfs, settled_dwarf}
use Rattle.dw_dwarf_laws.proofs.Converted.{IsClosedUnit, settled_unit}

-- a unit without a program, or with one in which no sequence is open
abbrev bare : UnitValue → LineRow → UnitValue
bare w r = record w { line_program = record { program = None; row = r } }

abbrev shut : UnitValue → ProgramValue → LineRow → UnitValue
shut w p r = record w { line_program = record { program = Some (record p { in_sequence = false }); row = r } }

-- what holds of both holds of every unit in which none is open
by_program : (Holds : UnitValue → Type 0) → ((w : UnitValue) (r : LineRow) → Holds (bare w r)) → ((w : UnitValue) (p : ProgramValue) (r : LineRow) → Holds (shut w p r)) → (u : UnitValue) → IsClosedUnit u → Holds u
by_program Holds none some u closed = go u.line_program.program closed
  where
    go : (o : Option ProgramValue) → is_in_sequence o ≡ false → Holds (record u { line_program = record { program = o; row = u.line_program.row } })
    go None e = none u u.line_program.row
    go (Some p) e = subst Holds (λ i. record u { line_program = record { program = Some (record p { in_sequence = sym e i }); row = u.line_program.row } }) (some u p u.line_program.row)

module _ (is_plain : Bool) where
  unit_kept : (t : Elsewhere) (at : ℕ) (u : UnitValue) → IsClosedUnit u → IsWritableAt is_plain t at u → IsWritableAt is_plain t at (settled_unit u)
  unit_kept t at u closed = by_program (λ z. IsWritableAt is_plain t at z → IsWritableAt is_plain t at (settled_unit z)) (λ w r h. h) (λ w p r h. h) u closed

  unit_was : (t : Elsewhere) (at : ℕ) (u : UnitValue) → IsClosedUnit u → IsWritableAt is_plain t at (settled_unit u) → IsWritableAt is_plain t at u
  unit_was t at u closed = by_program (λ z. IsWritableAt is_plain t at (settled_unit z) → IsWritableAt is_plain t at z) (λ w r h. h) (λ w p r h. h) u closed

  past_same : (t : Elsewhere) (u : UnitValue) → IsClosedUnit u → past_elsewhere t (settled_unit u) ≡ past_elsewhere t u
  past_same t u closed = by_program (λ z. past_elsewhere t (settled_unit z) ≡ past_elsewhere t z) (λ w r. refl) (λ w p r. refl) u closed

  table_same : (at : ℕ) (u : UnitValue) → IsClosedUnit u → past_table at (settled_unit u) ≡ past_table at u
  table_same at u closed = by_program (λ z. past_table at (settled_unit z) ≡ past_table at z) (λ w r. refl) (λ w p r. refl) u closed

  units_kept : (t : Elsewhere) (at : ℕ) (us : List UnitValue) → AreClosed us → AreWritable is_plain t at us → AreWritable is_plain t at (map settled_unit us)
  units_kept t at [] closed h = tt
  units_kept t at (u ∷ us) closed h =
      (one h.0, subst (λ e. AreWritable is_plain e (past_table at (settled_unit u)) (map settled_unit us)) (sym (past_same t u closed.0)) (subst (λ n. AreWritable is_plain (past_elsewhere t u) n (map settled_unit us)) (sym (table_same at u closed.0)) (units_kept (past_elsewhere t u) (past_table at u) us closed.1 h.1)))
    where
      one : (u.is_written ≡ true) ⊎ IsWritableAt is_plain t at u → (u.is_written ≡ true) ⊎ IsWritableAt is_plain t at (settled_unit u)
      one (inl e) = inl e
      one (inr k) = inr (unit_kept t at u closed.0 k)

  units_were : (t : Elsewhere) (at : ℕ) (us : List UnitValue) → AreClosed us → AreWritable is_plain t at (map settled_unit us) → AreWritable is_plain t at us
  units_were t at [] closed h = tt
  units_were t at (u ∷ us) closed h =
      (one h.0, units_were (past_elsewhere t u) (past_table at u) us closed.1 (subst (λ n. AreWritable is_plain (past_elsewhere t u) n (map settled_unit us)) (table_same at u closed.0) (subst (λ e. AreWritable is_plain e (past_table at (settled_unit u)) (map settled_unit us)) (past_same t u closed.0) h.1)))
    where
      one : (u.is_written ≡ true) ⊎ IsWritableAt is_plain t at (settled_unit u) → (u.is_written ≡ true) ⊎ IsWritableAt is_plain t at u
      one (inl e) = inl e
      one (inr k) = inr (unit_was t at u closed.0 k)

-- references across units

abbrev settled_numbered : Numbered → Numbered
settled_numbered z = record z { unit = settled_unit z.unit }

parts_same : (t : Elsewhere) (u : UnitValue) → IsClosedUnit u → past_parts t (settled_unit u) ≡ past_parts t u
parts_same t u closed = by_program (λ z. past_parts t (settled_unit z) ≡ past_parts t z) (λ w r. refl) (λ w p r. refl) u closed

number_same : (n : ℕ) (t : Elsewhere) (u : UnitValue) → IsClosedUnit u → settled_at n t (settled_unit u) ≡ settled_numbered (settled_at n t u)
number_same n t u closed = by_program (λ z. settled_at n t (settled_unit z) ≡ settled_numbered (settled_at n t z)) (λ w r. refl) (λ w p r. refl) u closed

numbers_same : (n : ℕ) (t : Elsewhere) (us : List UnitValue) → AreClosed us → numbered_from n t (map settled_unit us) ≡ map settled_numbered (numbered_from n t us)
numbers_same n t [] closed = refl
numbers_same n t (u ∷ us) closed =
    ap₂ (λ (z : Numbered) (zs : List Numbered). z ∷ zs) (number_same n t u closed.0)
    (ap (λ e. numbered_from (suc n) e (map settled_unit us)) (parts_same t u closed.0) ∙ numbers_same (suc n) (past_parts t u) us closed.1)

row_same : (at : Starts) (us : List Numbered) (ks : List Kept) → AreInRow at us ks → AreInRow at (map settled_numbered us) ks
row_same at [] [] h = tt
row_same at [] (k ∷ ks) h = absurd h
row_same at (u ∷ us) [] h = absurd h
row_same at (u ∷ us) (k ∷ ks) h = (h.0, row_same (past_kept at u k) us ks h.1)

row_was : (at : Starts) (us : List Numbered) (ks : List Kept) → AreInRow at (map settled_numbered us) ks → AreInRow at us ks
row_was at [] [] h = tt
row_was at [] (k ∷ ks) h = absurd h
row_was at (u ∷ us) [] h = absurd h
row_was at (u ∷ us) (k ∷ ks) h = (h.0, row_was (past_kept at u k) us ks h.1)

drafts_same : (us : List Numbered) (ks : List Kept) → units_draft (map settled_numbered us) ks ≡ units_draft us ks
drafts_same [] ks = refl
drafts_same (u ∷ us) [] = refl
drafts_same (u ∷ us) (k ∷ ks) = ap (then_draft (draft_at u k)) (drafts_same us ks)

kept_same : (us : List Numbered) (ks : List Kept) (n : ℕ) → kept_at (map settled_numbered us) ks n ≡ kept_at us ks n
kept_same [] ks n = refl
kept_same (u ∷ us) [] n = refl
kept_same (u ∷ us) (k ∷ ks) n = ap (λ o. if u.id == n then Some (kept_offsets k) else o) (kept_same us ks n)

lists_same : (five : Bool) (us : List Numbered) → location_drafts five (map (λ (z : Numbered). z.unit) (map settled_numbered us)) ≡ location_drafts five (map (λ (z : Numbered). z.unit) us)
lists_same five [] = refl
lists_same five (u ∷ us) = ap (then_draft (location_part five u.unit)) (lists_same five us)

-- what fails of references, as it is told of units with their places
abbrev fails_by : (ℕ → Option Offsets) → Draft → (Bool → Draft) → Bool → Ends → Error → Bool
fails_by kept units lists is_plain ends err =
    holes_fail (info_from kept) is_plain units.holes err || (holes_fail (info_from kept) ends.locations.is_plain (lists false).holes err || holes_fail (info_from kept) ends.location_lists.is_plain (lists true).holes err)

fails_same : (is_plain : Bool) (ends : Ends) (us : List Numbered) (ks : List Kept) (err : Error) → references_fail (info_of (map settled_numbered us) ks) is_plain ends (map settled_numbered us) ks err ≡ references_fail (info_of us ks) is_plain ends us ks err
fails_same is_plain ends us ks err = λ i. fails_by (λ n. kept_same us ks n i) (drafts_same us ks i) (λ five. lists_same five us i) is_plain ends err

lead_kept : (is_plain : Bool) (ends : Ends) (at : Starts) (us : List Numbered) → ReferencesLead is_plain ends at us → ReferencesLead is_plain ends at (map settled_numbered us)
lead_kept is_plain ends at us h = record { kept = h.kept; in_row = row_same at us h.kept h.in_row; lead = λ err. subst IsFalse (sym (fails_same is_plain ends us h.kept err)) (h.lead err) }

lead_was : (is_plain : Bool) (ends : Ends) (at : Starts) (us : List Numbered) → ReferencesLead is_plain ends at (map settled_numbered us) → ReferencesLead is_plain ends at us
lead_was is_plain ends at us h = record { kept = h.kept; in_row = row_was at us h.kept h.in_row; lead = λ err. subst IsFalse (fails_same is_plain ends us h.kept err) (h.lead err) }

module _ (is_plain : Bool) (d : DwarfValue) (closed : AreClosed d.units) where
  numbers : settled_units (empty_ends is_plain) (settled_dwarf d) ≡ map settled_numbered (settled_units (empty_ends is_plain) d)
  numbers = numbers_same 0 (found_from (empty_ends is_plain) d) d.units closed

  valid_kept : IsValid is_plain d → IsValid is_plain (settled_dwarf d)
  valid_kept h = record {
    units = units_kept is_plain (found_from (empty_ends is_plain) d) at_begin.abbrevs d.units closed h.units;
    references = subst (ReferencesLead is_plain (empty_ends is_plain) at_begin) (sym numbers) (lead_kept is_plain (empty_ends is_plain) at_begin (settled_units (empty_ends is_plain) d) h.references);
    extra = h.extra;
  }

  valid_was : IsValid is_plain (settled_dwarf d) → IsValid is_plain d
  valid_was h = record {
    units = units_were is_plain (found_from (empty_ends is_plain) d) at_begin.abbrevs d.units closed h.units;
    references = lead_was is_plain (empty_ends is_plain) at_begin (settled_units (empty_ends is_plain) d) (subst (ReferencesLead is_plain (empty_ends is_plain) at_begin) numbers h.references);
    extra = h.extra;
  }

-- Of two Dwarfs that are the same but for what no writer looks at, both can be written or none.
pub valid_alike : (is_plain : Bool) (one two : DwarfValue) → AreSameDwarfs one two → IsValid is_plain one → IsValid is_plain two
valid_alike is_plain one two h valid = valid_was is_plain two h.closed_too (subst (IsValid is_plain) h.same (valid_kept is_plain one h.closed valid))
