-- What is kept of a file, once it was converted.
use Rattle.std.proofs.Common.{◌≡◌, ◌∙◌, sym, ap, subst, ℕ, List, [], map, Option, Some}
use Rattle.std.specs.List.Sorted.{IsStrictlyIncreasing}
use Rattle.dw_base.specs.declared.offsets.UnitSectionOffset.{UnitSectionOffset}
use Rattle.dw_read.specs.Reading.{IsReading, Reading}
use Rattle.dw_read_units.specs.declared.dwarf.Dwarf.{Dwarf}
use Rattle.dw_read_units.specs.declared.dwarf.Unit.{Unit as UnitFields}
use Rattle.dw_entry_ids.specs.KeptRows.{keep_of}
use Rattle.dw_sources.specs.declared.convert_error.ConvertError.{ConvertError}
use Rattle.dw_entry_ranges.specs.Required.{FindsRequired}
use Rattle.dw_entry_ranges.specs.declared.live.LiveRange.{LiveRange}
use Rattle.dw_filter.specs.FileGraph.{IsLeastKeptIn}
use Rattle.dw_convert_lines.specs.Views.{tables}
use Rattle.dw_dwarf.specs.ConvertedDwarf.{no_strings}
use Rattle.dw_dwarf.specs.ConvertedUnits.{ConvertsKept, RefusesKept}
use Rattle.dw_dwarf.specs.DwarfValue.{DwarfValue}
use Rattle.dw_live_code.proofs.FewRows.{all_count}
use Rattle.dw_live_code.proofs.LiveEntries.{least_live}
use Rattle.dw_live_code.proofs.WholeFile.{all_read}
use Rattle.dw_live_code.specs.FileUnits.{AreAllUnits, CountAll}
use Rattle.dw_live_code.specs.Pruned.{AreLive, IsPruned, RefusesLive, constant_answers}

-- nothing was built yet
abbrev pub nothing : DwarfValue
nothing = record { units = []; line_programs = []; line_strings = []; strings = [] }

module _ {R E : Type 0} (reading : R → Reading) (law : (x : R) → IsReading (reading x)) (d : Dwarf R E) (live : List LiveRange) (units : List (UnitFields R E)) where
  -- what is kept is live
  pub kept_live : (counts : List ℕ) (required kept : List UnitSectionOffset) → CountAll units counts → FindsRequired reading d live required → IsLeastKeptIn reading d units counts required kept
      → IsStrictlyIncreasing (map (λ (p : UnitSectionOffset). p.0) kept) → AreLive reading d live units kept
  kept_live counts required kept all found least sorted = record {
    required = required;
    have = found;
    least = least_live reading units counts (all_count reading law units counts all) d required kept least;
    ascend = sorted;
  }

  module _ (all : AreAllUnits reading d units) (kept : List UnitSectionOffset) (are : AreLive reading d live units kept) (k : Option (List UnitSectionOffset)) (same : k ≡ Some kept) (old : DwarfValue) (empty : old ≡ nothing) where
    -- so that what is converted is what is pruned
    pub kept_pruned : (built : DwarfValue) → ConvertsKept (keep_of k) reading constant_answers d units old.units (tables old.strings old.line_strings) built.units (tables built.strings built.line_strings)
        → built.line_programs ≡ old.line_programs → IsPruned reading d live built
    kept_pruned built h programs =
        let keep = keep_of (Some kept) in
        let w : ConvertsKept keep reading constant_answers d units [] no_strings built.units (tables built.strings built.line_strings) =
        subst (λ (o : DwarfValue). ConvertsKept keep reading constant_answers d units o.units (tables o.strings o.line_strings) built.units (tables built.strings built.line_strings)) empty
        (subst (λ (m : Option (List UnitSectionOffset)). ConvertsKept (keep_of m) reading constant_answers d units old.units (tables old.strings old.line_strings) built.units (tables built.strings built.line_strings)) same h) in
        record {
          units = units;
          kept = kept;
          live = are;
          become = w;
          whole = all_read keep reading d law w.found.units.items w.read.units (subst (λ (us : List (UnitFields R E)). AreAllUnits reading d us) (sym w.read.held) all) w.read.numbered;
          programs = programs ∙ ap (λ (o : DwarfValue). o.line_programs) empty;
        }

    -- and why it can't be
    pub kept_refused : (e : ConvertError) → RefusesKept (keep_of k) reading constant_answers d units old.units (tables old.strings old.line_strings) e → RefusesLive reading d live e
    kept_refused e h = record {
      units = units;
      are = all;
      kept = kept;
      live = are;
      refuses = subst (λ (o : DwarfValue). RefusesKept (keep_of (Some kept)) reading constant_answers d units o.units (tables o.strings o.line_strings) e) empty
          (subst (λ (m : Option (List UnitSectionOffset)). RefusesKept (keep_of m) reading constant_answers d units old.units (tables old.strings old.line_strings) e) same h);
    }
