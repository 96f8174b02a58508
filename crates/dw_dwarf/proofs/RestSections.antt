-- Line programs of no unit, and strings, are written behind the units.
use Rattle.std.specs.Prelude.{◌≡◌, ◌⊎◌, ◌≤◌, ℕ, Bool, true, false, Option, List, refl, IsTrue, IsFalse}
use Rattle.std.proofs.Common.{sym, ◌∙◌, ap, subst, inl, inr}
use Rattle.dw_base.specs.declared.error.Error.{Error}
use Rattle.dw_base.specs.declared.error.Error.TheVariants as errors
use Rattle.dw_base.specs.declared.section_id.SectionId.TheVariants.{DebugLine, DebugStr, DebugLineStr}
use Rattle.dw_writer.specs.Causes.{HasRisen}
use Rattle.dw_writer.specs.Contents.{Meaning}
use Rattle.dw_writer.specs.Meaning.{Adds}
use Rattle.dw_writer.specs.Sections.{SomeHasRisen, NoFixups}
use Rattle.dw_writer.specs.declared.sections.Sections.{Sections}
use Rattle.dw_strings.specs.Strings.{string_bytes}
use Rattle.dw_writer.proofs.FaultLaws.{HasRisen-from}
use Rattle.dw_entries.specs.Targets.{Tables}
use Rattle.dw_line.specs.Parts.{NoCause, Refused as LinesRefused}
use Rattle.dw_unit.specs.Alone.{AppendsAlone}
use Rattle.dw_tree.specs.Causes.{Because, Is, RefusesAny}
use Rattle.dw_tree.specs.Elsewhere.{Elsewhere, AppendsLines, AppendsRanges, AppendsAllRanges}
use Rattle.dw_tree.specs.Pending.{starts_of}
use Rattle.dw_tree.specs.Places.{OffsetsValue}
use Rattle.dw_tree.specs.UnitValue.{UnitValue}
use Rattle.dw_tree.specs.Written.{CompletesAny, KeepsOtherSections}
use Rattle.dw_tree.proofs.Faults.{because-map}
use Rattle.dw_unit.proofs.UnitTexts.{behind-then}
use Rattle.dw_dwarf.specs.DwarfValue.{DwarfValue}
use Rattle.dw_dwarf.specs.Written.{AddsPrograms, AddsLines, AddsStrings, RestHasRisen, KeepsAllButRest, KeepsOthers}

not_both : (b : Bool) → IsTrue b → IsFalse b → ⊥
not_both true t f = absurd (let x : true ≡ false = f in cc)
not_both false t f = absurd (let x : false ≡ true = t in cc)

-- why line programs are refused
pub programs_because : {W : Type 0} (meaning : W → Meaning) (old new : Sections W) (fails : Error → Bool) (err : Error) → LinesRefused (meaning old.debug_line.0) (meaning new.debug_line.0) fails err → Because (RestHasRisen meaning old new) (Is fails) err
programs_because meaning old new fails errors.NoMemory h = tt
programs_because meaning old new fails errors.WriteFault h = inl h
programs_because meaning old new fails err h = h

module _ {W : Type 0} (meaning : W → Meaning) where
  -- units are added, whatever stands behind them
  pub completes_after : (old mid new : Sections W) (us vs : List UnitValue) (t : Elsewhere) → KeepsAllButRest mid new → CompletesAny meaning old mid us vs t → CompletesAny meaning old new us vs t
  completes_after old mid new us vs t same any =
      subst (λ s. CompletesAny meaning old s us vs t) (sym same)
      (λ before ws ks none pending.
      let p = any before ws ks none pending in
      record {
        kept = p.kept;
        appends = record { units = p.appends.units; tables = p.appends.tables; lists = record { located = p.appends.lists.located; locations = p.appends.lists.locations; location_lists = p.appends.lists.location_lists } };
        keeps = p.keeps;
        lead = p.lead;
      })

  pub appends_after : (old mid new : Sections W) (u : UnitValue) (t : Tables) (offsets : Option OffsetsValue) → KeepsAllButRest mid new → AppendsAlone meaning old mid u t offsets → AppendsAlone meaning old new u t offsets
  appends_after old mid new u t offsets same p =
      subst (λ s. AppendsAlone meaning old s u t offsets) (sym same)
      (record {
        kept = p.kept;
        appends = λ info. record { units = (p.appends info).units; tables = (p.appends info).tables; lists = record { located = (p.appends info).lists.located; locations = (p.appends info).lists.locations; location_lists = (p.appends info).lists.location_lists } };
        closed = p.closed;
        lists_closed = p.lists_closed;
        offsets_are = p.offsets_are;
      })

  -- the strings stand behind what their sections held before the units
  pub strings_after : (old mid new : Sections W) (line_strings strings : List (List ℕ)) → mid.debug_line_str ≡ old.debug_line_str → mid.debug_str ≡ old.debug_str → AddsStrings meaning mid new line_strings strings →
      AddsStrings meaning old new line_strings strings
  strings_after old mid new line_strings strings lines others p = record {
    lines = subst (λ w. Adds (meaning w.0) (meaning new.debug_line_str.0) (string_bytes line_strings)) lines p.lines;
    others = subst (λ w. Adds (meaning w.0) (meaning new.debug_str.0) (string_bytes strings)) others p.others;
  }

  -- line programs of no unit stand behind those of units
  pub lines_after : (old mid new : Sections W) (d : DwarfValue) → AppendsLines meaning old mid d.line_strings d.strings d.units → AddsPrograms meaning mid new d.line_strings d.strings d.line_programs → AddsLines meaning old new d
  lines_after old mid new d p q = behind-then p q

  -- range lists stay as they are behind them
  pub ranges_after : (old mid new : Sections W) (us : List UnitValue) → KeepsAllButRest mid new → AppendsAllRanges meaning old mid us → AppendsAllRanges meaning old new us
  ranges_after old mid new us same p = subst (λ s. AppendsAllRanges meaning old s us) (sym same) (record { found = p.found; ranges = p.ranges; range_lists = p.range_lists })

  pub unit_ranges_after : (old mid new : Sections W) (u : UnitValue) → KeepsAllButRest mid new → AppendsRanges meaning old mid u → AppendsRanges meaning old new u
  unit_ranges_after old mid new u same p = subst (λ s. AppendsRanges meaning old s u) (sym same) (record { found = p.found; ranges = p.ranges; range_lists = p.range_lists })

  -- a fault in one of these sections is one of the sections
  module _ (old mid new : Sections W) (line_strings : mid.debug_line_str ≡ old.debug_line_str) (strings : mid.debug_str ≡ old.debug_str) (faults : (meaning old.debug_line.0).faults ≤ (meaning mid.debug_line.0).faults) where
    rest_rise : RestHasRisen meaning mid new → SomeHasRisen meaning old new
    rest_rise (inl h) =
        record { id = DebugLine; before = old.debug_line.0; after = new.debug_line.0; was = refl; is = refl; risen = HasRisen-from (meaning old.debug_line.0) (meaning mid.debug_line.0) (meaning new.debug_line.0) faults h }
    rest_rise (inr (inl h)) =
        record { id = DebugLineStr; before = old.debug_line_str.0; after = new.debug_line_str.0; was = refl; is = refl; risen = subst (λ w. HasRisen (meaning w.0) (meaning new.debug_line_str.0)) line_strings h }
    rest_rise (inr (inr h)) =
        record { id = DebugStr; before = old.debug_str.0; after = new.debug_str.0; was = refl; is = refl; risen = subst (λ w. HasRisen (meaning w.0) (meaning new.debug_str.0)) strings h }

    -- why these are refused, whatever else may be
    pub rest_because : (fails : Error → Bool) (cause : Error → Type 0) (err : Error) → ((e : Error) → IsTrue (fails e) → cause e) → Because (RestHasRisen meaning mid new) (Is fails) err → Because (SomeHasRisen meaning old new) cause err
    rest_because fails cause err into h = because-map {p = Is fails} {q = cause} rest_rise into err h

    -- they are refused for want of memory alone where no count rises and none has a fault
    pub rest_memory : (fails : Error → Bool) (err : Error) → NoCause fails → (SomeHasRisen meaning old new → ⊥) → Because (RestHasRisen meaning mid new) (Is fails) err → err ≡ errors.NoMemory
    rest_memory fails errors.NoMemory sound calm h = refl
    rest_memory fails errors.WriteFault sound calm h = absurd (calm (rest_rise h))
    rest_memory fails err sound calm h = absurd (not_both (fails err) h (sound err))

    -- why units are refused, whatever is pending, or a line program of no unit is
    pub refuses_any : (us vs : List UnitValue) (t : Elsewhere) (fails : Error → Bool) (err : Error) → Because (RestHasRisen meaning mid new) (Is fails) err → RefusesAny meaning old new us vs t err ⊎ IsTrue (fails err)
    refuses_any us vs t fails errors.NoMemory h = inl (λ before ws ks none pending. tt)
    refuses_any us vs t fails errors.WriteFault h = inl (λ before ws ks none pending. rest_rise h)
    refuses_any us vs t fails err h = inr h

  -- the sections that stay
  pub others_after : (old mid new : Sections W) → KeepsOtherSections old mid → KeepsAllButRest mid new → KeepsOthers old new
  others_after old mid new h k =
      k
      ∙ ap (λ (s : Sections W). let t : Sections W = record s { debug_str = new.debug_str; debug_line_str = new.debug_line_str; debug_line = new.debug_line } in t) h
      ∙ ap (λ (s : Sections W).
      let t : Sections W = record old {
        debug_abbrev = s.debug_abbrev;
        debug_str = new.debug_str;
        debug_line_str = new.debug_line_str;
        debug_line = new.debug_line;
        debug_ranges = s.debug_ranges;
        debug_rnglists = s.debug_rnglists;
        debug_loc = s.debug_loc;
        debug_loclists = s.debug_loclists;
        debug_info = s.debug_info;
        debug_info_fixups = s.debug_info_fixups;
        debug_loc_fixups = s.debug_loc_fixups;
        debug_loclists_fixups = s.debug_loclists_fixups;
      } in
      t) (sym k)

  -- the lists of fixups that are empty stay so
  pub fixups_after : (mid new : Sections W) → KeepsAllButRest mid new → NoFixups mid → NoFixups new
  fixups_after mid new k h = record {
    info = ap (λ s. s.debug_info_fixups) k ∙ h.info;
    loc = ap (λ s. s.debug_loc_fixups) k ∙ h.loc;
    loclists = ap (λ s. s.debug_loclists_fixups) k ∙ h.loclists;
  }

  -- units and their tables end where they ended
  pub starts_after : (mid new : Sections W) → KeepsAllButRest mid new → starts_of meaning mid ≡ starts_of meaning new
  starts_after mid new k = sym (ap (starts_of meaning) k)
