-- A Dwarf of one unit, which was written alone.
use Rattle.std.specs.Prelude.{◌≡◌, ℕ, Bool, true, false, ◌||◌, List, [], ◌∷◌, Option, refl, IsTrue, IsFalse}
use Rattle.std.proofs.Common.{◌∙◌, ap, inl, inr, arith}
use Rattle.dw_base.specs.declared.error.Error.{Error}
use Rattle.dw_base.specs.declared.error.Error.TheVariants as errors
use Rattle.dw_writer.specs.Contents.{Meaning}
use Rattle.dw_writer.specs.Drafts.{Info}
use Rattle.dw_writer.specs.declared.fixup.DebugInfoFixup.{DebugInfoFixup}
use Rattle.dw_writer.specs.Sections.{SomeHasRisen}
use Rattle.dw_writer.specs.declared.sections.Sections.{Sections}
use Rattle.dw_tree.specs.Elsewhere.{Elsewhere, elsewhere, ends_of, unit_tables, line_text, AppendsLine, AppendsRanges, AppendsAllRanges}
use Rattle.dw_unit.proofs.LineSteps.{lines_none, lines_new}
use Rattle.dw_unit.proofs.RangeSteps.{ranges_none, ranges_new}
use Rattle.dw_unit.proofs.UnitTexts.{behind-then, behind-as}
use Rattle.dw_writer.proofs.Parts.{followed-nothing}
use Rattle.dw_unit.specs.Alone.{has_info_reference, only_unit, AppendsAlone, AloneFails, AloneRefused}
use Rattle.dw_tree.specs.Pending.{units_draft, locations_draft, info_of}
use Rattle.dw_tree.specs.Places.{OffsetsValue}
use Rattle.dw_tree.specs.UnitFaults.{holes_fail}
use Rattle.dw_tree.specs.UnitValue.{UnitValue}
use Rattle.dw_tree.specs.Valid.{IsWritableAt}
use Rattle.dw_tree.specs.Whole.{settled}
use Rattle.dw_unit.proofs.ValidLaws.{unit_unfailing}
use Rattle.dw_dwarf.specs.DwarfValue.{dwarf_of}
use Rattle.dw_dwarf.specs.Valid.{programs_fail, settled_units}
use Rattle.dw_dwarf.specs.Written.{AddsPrograms, AddsLines}
use Rattle.dw_unit.proofs.FileCompleted.{Completes}

-- a unit that was added alone is a whole Dwarf
pub alone_whole : {W : Type 0} (meaning : W → Meaning) (old new : Sections W) (line_strings strings : List (List ℕ)) (u : UnitValue) (offsets : Option OffsetsValue) → AppendsAlone meaning old new (settled u) (unit_tables (elsewhere meaning old line_strings strings) u) offsets →
    Completes meaning old new (settled_units (ends_of meaning old) (dwarf_of line_strings strings u))
alone_whole meaning old new line_strings strings u offsets p =
    let us = only_unit (unit_tables (elsewhere meaning old line_strings strings) u) (settled u) in
    let ks = p.kept ∷ [] in
    let info = info_of us ks in
    record {
      kept = ks;
      adds = p.appends info;
      lead = λ err. none_fail info (meaning old.debug_info.0).is_plain (meaning old.debug_loc.0).is_plain (meaning old.debug_loclists.0).is_plain (units_draft us ks).holes (locations_draft us false).holes (locations_draft us true).holes p.closed (p.lists_closed false) (p.lists_closed true) err;
    }
  where
    none_fail : (info : Info) (a b c : Bool) (hs is js : List DebugInfoFixup) → hs ≡ [] → is ≡ [] → js ≡ [] → (err : Error) → IsFalse (holes_fail info a hs err || (holes_fail info b is err || holes_fail info c js err))
    none_fail info a b c hs is js h i j err =
        ap (λ xs. holes_fail info a xs err || (holes_fail info b is err || holes_fail info c js err)) h
        ∙ ap (λ xs. holes_fail info b xs err || holes_fail info c js err) i
        ∙ ap (λ xs. holes_fail info c xs err) j

module _ {W : Type 0} (meaning : W → Meaning) (old mid new : Sections W) (line_strings strings : List (List ℕ)) (u : UnitValue) where
  -- its line program, with no other behind it
  pub line_behind : AppendsLine meaning old mid line_strings strings u → AddsPrograms meaning mid new line_strings strings [] → AppendsLine meaning old new line_strings strings u
  line_behind p q = behind-as (behind-then p q) (omega arith) (λ big l. followed-nothing (line_text line_strings strings u big l))

  -- is all that is added to .debug_line
  pub line_alone : u.is_written ≡ false → AppendsLine meaning old mid line_strings strings u → AddsPrograms meaning mid new line_strings strings [] → AddsLines meaning old new (dwarf_of line_strings strings u)
  line_alone unwritten p q = behind-then (lines_new line_strings strings meaning old old mid [] u unwritten (lines_none line_strings strings meaning old) p) q

-- its range lists are all that is added to their sections
pub ranges_alone : {W : Type 0} (meaning : W → Meaning) (old new : Sections W) (u : UnitValue) → u.is_written ≡ false → AppendsRanges meaning old new u → AppendsAllRanges meaning old new (u ∷ [])
ranges_alone meaning old new u unwritten p = ranges_new meaning old old new [] u unwritten (ranges_none meaning old) p

-- no line program has a fault
pub no_program : (line_strings strings : List (List ℕ)) (plain : Bool) (e : Error) → IsTrue (programs_fail line_strings strings plain [] e) → ⊥
no_program line_strings strings plain e h = absurd (let x : false ≡ true = h in cc)

not_both : (b : Bool) → IsTrue b → IsFalse b → ⊥
not_both true t f = absurd (let x : true ≡ false = f in cc)
not_both false t f = absurd (let x : false ≡ true = t in cc)

-- A unit that can be written, and has no reference by a place in .debug_info, has no cause to be refused.
alone_unfailing : (plain : Bool) (t : Elsewhere) (table : ℕ) (u : UnitValue) → IsWritableAt plain t table u → IsFalse (has_info_reference u) → (err : Error) → AloneFails u t table plain err → ⊥
alone_unfailing plain t table u w alone err (inl h) = unit_unfailing plain t u table w.1 w.0 err h
alone_unfailing plain t table u w alone err (inr h) = not_both (has_info_reference u) h.1 alone

pub alone_complete : {W : Type 0} (meaning : W → Meaning) (old new : Sections W) (t : Elsewhere) (u : UnitValue) → IsWritableAt (meaning old.debug_info.0).is_plain t (meaning old.debug_abbrev.0).size u → IsFalse (has_info_reference u) →
    (SomeHasRisen meaning old new → ⊥) → (err : Error) → AloneRefused meaning old new u t err → err ≡ errors.NoMemory
alone_complete meaning old new t u w alone calm errors.NoMemory r = refl
alone_complete meaning old new t u w alone calm errors.WriteFault r = absurd (calm r)
alone_complete meaning old new t u w alone calm err r = absurd (alone_unfailing (meaning old.debug_info.0).is_plain t (meaning old.debug_abbrev.0).size u w alone err r)
