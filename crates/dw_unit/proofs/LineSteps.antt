-- The line programs of units, one behind another.
use Rattle.std.specs.Prelude.{◌≡◌, ℕ, Bool, true, false, ◌&&◌, List, [], ◌∷◌, ◌++◌, Some, refl, if◌then◌else◌}
use Rattle.std.proofs.Common.{sym, ◌∙◌, ap}
use Rattle.dw_base.specs.declared.error.Error.{Error}
use Rattle.dw_base.specs.declared.error.Error.TheVariants as errors
use Rattle.dw_base.specs.declared.section_id.SectionId.TheVariants.{DebugLine}
use Rattle.dw_writer.specs.Sections.{SomeHasRisen}
use Rattle.dw_writer.specs.Meaning.{Meaning}
use Rattle.dw_writer.specs.declared.sections.Sections.{Sections}
use Rattle.dw_line.specs.LinePrograms.{line_program_size, line_program_text, line_program_fails}
use Rattle.dw_line.specs.Parts.{Refused as LinesRefused}
use Rattle.dw_tree.specs.Causes.{Because, Is}
use Rattle.dw_tree.specs.Elsewhere.{Elsewhere, line_fails, line_size, line_text, AppendsLine, AppendsLines}
use Rattle.dw_tree.specs.UnitValue.{UnitValue}
use Rattle.dw_tree.specs.Whole.{lines_in_use}
use Rattle.dw_unit.proofs.UnitTexts.{behind-none, behind-as, behind-new, behind-old}

module _ (line_strings strings : List (List ℕ)) {W : Type 0} (meaning : W → Meaning) where
  -- no unit adds nothing
  pub lines_none : (s : Sections W) → AppendsLines meaning s s line_strings strings []
  lines_none s = behind-none (meaning s.debug_line.0)

  pub lines_new : (a b c : Sections W) (xs : List UnitValue) (u : UnitValue) → u.is_written ≡ false → AppendsLines meaning a b line_strings strings xs → AppendsLine meaning b c line_strings strings u → AppendsLines meaning a c line_strings strings (xs ++ u ∷ [])
  lines_new a b c xs u h p q = behind-new line_size (line_text line_strings strings) xs u h p q

  pub lines_old : (a b : Sections W) (xs : List UnitValue) (u : UnitValue) → u.is_written ≡ true → AppendsLines meaning a b line_strings strings xs → AppendsLines meaning a b line_strings strings (xs ++ u ∷ [])
  lines_old a b xs u h p = behind-old line_size (line_text line_strings strings) xs u h p

  -- a line program that isn't in use adds nothing
  pub line_unused : (s : Sections W) (u : UnitValue) → lines_in_use u ≡ false → AppendsLine meaning s s line_strings strings u
  line_unused s u h =
      behind-as (behind-none (meaning s.debug_line.0)) (sym (ap (λ (b : Bool). if b then line_program_size u.line_program else 0) h))
      (λ big l. sym (ap (λ (b : Bool). if b then line_program_text strings line_strings u.line_program big l else Some []) h))

-- why a line program in use is refused
pub line_because : {W : Type 0} (meaning : W → Meaning) (old new : Sections W) (u : UnitValue) (t : Elsewhere) (err : Error) → lines_in_use u ≡ true →
    LinesRefused (meaning old.debug_line.0) (meaning new.debug_line.0) (line_program_fails t.strings t.line_strings t.ends.lines.is_plain u.encoding u.line_program) err → Because (SomeHasRisen meaning old new) (Is (line_fails t u)) err
line_because meaning old new u t errors.NoMemory used h = tt
line_because meaning old new u t errors.WriteFault used h = record { id = DebugLine; before = old.debug_line.0; after = new.debug_line.0; was = refl; is = refl; risen = h }
line_because meaning old new u t err used h = ap (λ b. b && line_program_fails t.strings t.line_strings t.ends.lines.is_plain u.encoding u.line_program err) used ∙ h
