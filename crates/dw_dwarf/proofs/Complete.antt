-- A valid Dwarf is refused over new sections only for want of memory, or by a fault.
use Rattle.std.specs.Prelude.{◌≡◌, ◌⊎◌, Bool, true, false, List, [], refl, IsTrue, IsFalse}
use Rattle.std.proofs.Common.{sym, ◌∙◌, ap, subst, inl, inr}
use Rattle.dw_base.specs.declared.error.Error.{Error}
use Rattle.dw_base.specs.declared.error.Error.TheVariants as errors
use Rattle.dw_writer.specs.Contents.{Meaning}
use Rattle.dw_writer.specs.Sections.{SomeHasRisen, NoFixups}
use Rattle.dw_writer.proofs.NewLemmas.{IsEmptyWriter-from_plain}
use Rattle.dw_writer.specs.declared.sections.Sections.{Sections}
use Rattle.dw_line.specs.Parts.{NoCause}
use Rattle.dw_tree.specs.Built.{Starts, at_begin}
use Rattle.dw_tree.specs.Elsewhere.{ends_of}
use Rattle.dw_tree.specs.Causes.{UnitsFail, RefusesAny, ReferencesFail}
use Rattle.dw_tree.specs.Pending.{Kept, info_at, info_of, starts_of}
use Rattle.dw_tree.specs.ReferenceFaults.{references_fail}
use Rattle.dw_tree.specs.UnitValue.{UnitValue}
use Rattle.dw_tree.specs.Valid.{AreWritable}
use Rattle.dw_tree.specs.Written.{to_write}
use Rattle.dw_tree.proofs.Faults.{because-map}
use Rattle.dw_unit.proofs.PendingSteps.{pending_none}
use Rattle.dw_unit.proofs.TableLaws.{info_kept, unwritten_keeps, to_write-unwritten, units_unfailing, one_row}
use Rattle.dw_dwarf.specs.Valid.{AreUnwritten, IsValid, IsValidAt, SomeReferenceFails, DwarfFails, DwarfRefused, found_from, found_in, empty_ends, extra_fails, settled_units}
use Rattle.dw_dwarf.specs.Written.{AreNewPlain, AreNew}
use Rattle.dw_dwarf.specs.DwarfValue.{DwarfValue}
use Rattle.dw_unit.proofs.FileCompleted.{Completes}
use Rattle.dw_dwarf.proofs.Held.{ends_are}

-- plain sections are some of any kind
pub AreNew-from_plain : {W : Type 0} (meaning : W → Meaning) (s : Sections W) → AreNewPlain meaning s → AreNew meaning s
AreNew-from_plain meaning s empty = record {
  info = IsEmptyWriter-from_plain (meaning s.debug_info.0) (meaning s.debug_info.0).is_big empty.writers.debug_info;
  abbrevs = IsEmptyWriter-from_plain (meaning s.debug_abbrev.0) (meaning s.debug_abbrev.0).is_big empty.writers.debug_abbrev;
  lines = IsEmptyWriter-from_plain (meaning s.debug_line.0) (meaning s.debug_line.0).is_big empty.writers.debug_line;
  ranges = IsEmptyWriter-from_plain (meaning s.debug_ranges.0) (meaning s.debug_ranges.0).is_big empty.writers.debug_ranges;
  range_lists = IsEmptyWriter-from_plain (meaning s.debug_rnglists.0) (meaning s.debug_rnglists.0).is_big empty.writers.debug_rnglists;
  kind = empty.writers.debug_line.plain ∙ sym empty.writers.debug_info.plain;
  ranges_kind = empty.writers.debug_ranges.plain ∙ sym empty.writers.debug_info.plain;
  range_lists_kind = empty.writers.debug_rnglists.plain ∙ sym empty.writers.debug_info.plain;
  locations = IsEmptyWriter-from_plain (meaning s.debug_loc.0) (meaning s.debug_loc.0).is_big empty.writers.debug_loc;
  location_lists = IsEmptyWriter-from_plain (meaning s.debug_loclists.0) (meaning s.debug_loclists.0).is_big empty.writers.debug_loclists;
  locations_kind = empty.writers.debug_loc.plain ∙ sym empty.writers.debug_info.plain;
  location_lists_kind = empty.writers.debug_loclists.plain ∙ sym empty.writers.debug_info.plain;
  fixups = empty.fixups;
}

-- what was written was valid
pub whole_valid : {W : Type 0} (meaning : W → Meaning) (old new : Sections W) (d : DwarfValue) → AreWritable (meaning old.debug_info.0).is_plain (found_in meaning old d) (meaning old.debug_abbrev.0).size d.units →
    Completes meaning old new (settled_units (ends_of meaning old) d) → NoCause (extra_fails (meaning old.debug_line.0).is_plain d) →
    IsValidAt (meaning old.debug_info.0).is_plain (starts_of meaning old) (ends_of meaning old) d
whole_valid meaning old new d units whole extra = record {
  units = units;
  references = record { kept = whole.kept; in_row = whole.adds.units.in_row; lead = whole.lead };
  extra = extra;
}

-- Why a table is refused, where none of its units was written before and no reference was open.
pub whole_refused : {W : Type 0} (meaning : W → Meaning) (old new : Sections W) (d : DwarfValue) (vs : List UnitValue) (err : Error) → NoFixups old → AreUnwritten d → RefusesAny meaning old new d.units vs (found_in meaning old d) err →
    DwarfRefused meaning old new d err
whole_refused {W} meaning old new d vs err none unwritten any =
    because-map {p = λ e. UnitsFail (meaning old.debug_info.0).is_plain (found_in meaning old d) (meaning old.debug_abbrev.0).size d.units e ⊎ ReferencesFail meaning old d.units vs (found_in meaning old d) [] [] e}
    {q = DwarfFails (meaning old.debug_info.0).is_plain (starts_of meaning old) (ends_of meaning old) d}
    (λ r. r) (λ e h. by_case e h) err (any old [] [] none (pending_none meaning old))
  where
    by_case : (e : Error) → UnitsFail (meaning old.debug_info.0).is_plain (found_in meaning old d) (meaning old.debug_abbrev.0).size d.units e ⊎ ReferencesFail meaning old d.units vs (found_in meaning old d) [] [] e →
        DwarfFails (meaning old.debug_info.0).is_plain (starts_of meaning old) (ends_of meaning old) d e
    by_case e (inl h) = inl h
    by_case e (inr h) =
        let ns = to_write (found_in meaning old d) d.units in
        let info : info_at vs ≡ info_of ns h.kept = info_kept vs ns h.kept (h.keeps (unwritten_keeps d.units unwritten)) in
        let here : SomeReferenceFails (meaning old.debug_info.0).is_plain (ends_of meaning old) (starts_of meaning old) ns e = record {
          kept = h.kept;
          in_row = h.in_row;
          fails = subst (λ f. IsTrue (references_fail f (meaning old.debug_info.0).is_plain (ends_of meaning old) ns h.kept e)) info h.fails;
        } in
        inr (inl (subst (λ xs. SomeReferenceFails (meaning old.debug_info.0).is_plain (ends_of meaning old) (starts_of meaning old) xs e) (to_write-unwritten 0 (found_in meaning old d) d.units unwritten) here))

starts_are : (a b : Starts) → a.info ≡ b.info → a.abbrevs ≡ b.abbrevs → a ≡ b
starts_are a b p q =
    ap (λ n. let s : Starts = record { info = n; abbrevs = a.abbrevs } in s) p ∙ ap (λ n. let s : Starts = record { info = b.info; abbrevs = n } in s) q

not_both : (b : Bool) → IsTrue b → IsFalse b → ⊥
not_both true t f = absurd (let x : true ≡ false = f in cc)
not_both false t f = absurd (let x : false ≡ true = t in cc)

-- A valid Dwarf has no cause to be refused.
module _ (plain : Bool) (d : DwarfValue) (valid : IsValid plain d) (err : Error) where
  reference_fails : SomeReferenceFails plain (empty_ends plain) at_begin (settled_units (empty_ends plain) d) err → ⊥
  reference_fails h =
      let us = settled_units (empty_ends plain) d in
      let own = valid.references in
      let same = one_row at_begin us own.kept h.kept own.in_row h.in_row in
      not_both (references_fail (info_of us h.kept) plain (empty_ends plain) us h.kept err) h.fails
      (subst (λ (ks : List Kept). IsFalse (references_fail (info_of us ks) plain (empty_ends plain) us ks err)) same (own.lead err))

  pub valid_unfailing : DwarfFails plain at_begin (empty_ends plain) d err → ⊥
  valid_unfailing (inl h) = units_unfailing plain (found_from (empty_ends plain) d) 0 d.units valid.units err h
  valid_unfailing (inr (inl h)) = reference_fails h
  valid_unfailing (inr (inr h)) = not_both (extra_fails plain d err) h (valid.extra err)

module _ {W : Type 0} (meaning : W → Meaning) (old new : Sections W) (empty : AreNew meaning old) (calm : SomeHasRisen meaning old new → ⊥) (d : DwarfValue) where
  abbrev plain : Bool
  plain = (meaning old.debug_info.0).is_plain

  begins : starts_of meaning old ≡ at_begin
  begins = starts_are (starts_of meaning old) at_begin empty.info.size empty.abbrevs.size

  ends_begin : ends_of meaning old ≡ empty_ends plain
  ends_begin =
      ends_are (meaning old.debug_line.0) (meaning old.debug_ranges.0) (meaning old.debug_rnglists.0) (meaning old.debug_loc.0) (meaning old.debug_loclists.0) plain empty.lines.size empty.kind empty.ranges.size empty.ranges_kind
      empty.range_lists.size empty.range_lists_kind empty.locations.size empty.locations_kind empty.location_lists.size empty.location_lists_kind

  at_zero : (err : Error) → DwarfFails plain (starts_of meaning old) (ends_of meaning old) d err → DwarfFails plain at_begin (empty_ends plain) d err
  at_zero err h = subst (λ e. DwarfFails plain at_begin e d err) ends_begin (subst (λ at. DwarfFails plain at (ends_of meaning old) d err) begins h)

  -- what a refusal comes to that isn't want of memory
  pub dwarf_fails : (err : Error) → (err ≡ errors.NoMemory → ⊥) → DwarfRefused meaning old new d err → DwarfFails plain at_begin (empty_ends plain) d err
  dwarf_fails errors.NoMemory some r = absurd (some refl)
  dwarf_fails errors.WriteFault some r = absurd (calm r)
  dwarf_fails err some r = at_zero err r

  pub dwarf_complete : IsValid plain d → (err : Error) → DwarfRefused meaning old new d err → err ≡ errors.NoMemory
  dwarf_complete valid errors.NoMemory r = refl
  dwarf_complete valid errors.WriteFault r = absurd (calm r)
  dwarf_complete valid err r = absurd (valid_unfailing plain d valid err (at_zero err r))

-- what is valid where new plain sections begin is valid
pub starts_valid : {W : Type 0} (meaning : W → Meaning) (old : Sections W) (d : DwarfValue) → AreNewPlain meaning old → IsValidAt (meaning old.debug_info.0).is_plain (starts_of meaning old) (ends_of meaning old) d → IsValid true d
starts_valid meaning old d empty valid =
    let plain = (meaning old.debug_info.0).is_plain in
    let at = starts_are (starts_of meaning old) at_begin empty.writers.debug_info.size empty.writers.debug_abbrev.size in
    let w = empty.writers in
    let ends : ends_of meaning old ≡ empty_ends true =
    ends_are (meaning old.debug_line.0) (meaning old.debug_ranges.0) (meaning old.debug_rnglists.0) (meaning old.debug_loc.0) (meaning old.debug_loclists.0) true w.debug_line.size w.debug_line.plain w.debug_ranges.size w.debug_ranges.plain
    w.debug_rnglists.size w.debug_rnglists.plain w.debug_loc.size w.debug_loc.plain w.debug_loclists.size w.debug_loclists.plain
    in
    subst (λ b. IsValidAt b at_begin (empty_ends true) d) empty.writers.debug_info.plain
    (subst (λ e. IsValidAt plain at_begin e d) ends (subst (λ s. IsValidAt plain s (ends_of meaning old) d) at valid))
