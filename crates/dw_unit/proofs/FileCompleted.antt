-- The units of a table are written behind those of its file that were written before.
use Rattle.std.specs.Prelude.{◌≡◌, ℕ, true, List, [], ◌++◌, Some, IsFalse}
use Rattle.std.proofs.Common.{sym, ◌∙◌, ap, subst}
use Rattle.dw_base.specs.declared.error.Error.{Error}
use Rattle.dw_writer.specs.Contents.{Meaning}
use Rattle.dw_writer.specs.Sections.{NoFixups}
use Rattle.dw_writer.specs.Texts.{followed}
use Rattle.dw_writer.specs.declared.sections.Sections.{Sections}
use Rattle.dw_tree.specs.Built.{Numbered, at_zero}
use Rattle.dw_tree.specs.Elsewhere.{ends_of, elsewhere}
use Rattle.dw_tree.specs.Pending.{Kept, KeepPlaces, info_at, info_of, tables_of}
use Rattle.dw_tree.specs.ReferenceFaults.{references_fail}
use Rattle.dw_tree.specs.UnitValue.{UnitValue}
use Rattle.dw_tree.specs.Written.{AppendsUnits, CompletesAny, to_write}
use Rattle.dw_unit.specs.WrittenUnits.{WrittenUnit, written_from, unwritten_from, PendsFile, BeginPlain, HoldsUnits, HoldsAllUnits}
use Rattle.dw_unit.proofs.FileSteps.{written-append}
use Rattle.dw_unit.proofs.Files.{IsFileRead, units_held}
use Rattle.dw_unit.proofs.LeftUnits.{to_write-left}
use Rattle.dw_unit.proofs.TableLaws.{info_kept}
use Rattle.dw_unit.proofs.UnitTexts.{nothing-followed}

-- Units are added, and each reference across them leads to where its entry is kept.
pub record Completes {W : Type 0} (meaning : W → Meaning) (before new : Sections W) (us : List Numbered) : Type 0 where
  pub kept : List Kept
  pub adds : AppendsUnits meaning before new (info_of us kept) us kept
  pub lead : (err : Error) → IsFalse (references_fail (info_of us kept) (meaning before.debug_info.0).is_plain (ends_of meaning before) us kept err)

pub file_completed : {W : Type 0} (meaning : W → Meaning) (before old new : Sections W) (line_strings strings : List (List ℕ)) (us vs : List UnitValue) (ws : List WrittenUnit) (kept : List Kept) → NoFixups before →
    PendsFile meaning before old line_strings strings ws kept → KeepPlaces us (written_from (ends_of meaning before) ws) kept → CompletesAny meaning old new us vs (elsewhere meaning old line_strings strings) →
    Completes meaning before new (written_from (ends_of meaning before) (ws ++ unwritten_from 0 line_strings strings us))
file_completed meaning before old new line_strings strings us vs ws kept none f keeps any =
    let from = ends_of meaning before in
    let t = elsewhere meaning old line_strings strings in
    let left = unwritten_from 0 line_strings strings us in
    let all = written_from from ws ++ to_write t us in
    let same : all ≡ written_from from (ws ++ left) = ap (λ xs. written_from from ws ++ xs) (to_write-left 0 t us ∙ ap (λ e. written_from e left) f.ends) ∙ sym (written-append from ws left) in
    let p = any before (written_from from ws) kept none f.pending in
    let ks = kept ++ p.kept in
    let info : info_at vs ≡ info_of all ks = info_kept vs all ks (p.keeps keeps) in
    let whole : Completes meaning before new all = record {
      kept = ks;
      adds = subst (λ i. AppendsUnits meaning before new i all ks) info p.appends;
      lead = λ err. subst (λ i. IsFalse (references_fail i (meaning before.debug_info.0).is_plain from all ks err)) info (p.lead err);
    } in
    subst (Completes meaning before new) same whole

-- Over plain sections, empty before, they are read as these.
pub units_whole : {W : Type 0} (meaning : W → Meaning) → ((w : W) → (meaning w).is_plain ≡ true → (meaning w).records ≡ []) → (before new : Sections W) (us : List Numbered) → BeginPlain meaning before → Completes meaning before new us → HoldsUnits meaning new us
units_whole meaning law before new us empty w =
    let m = meaning before.debug_info.0 in
    let plain : (meaning new.debug_info.0).is_plain ≡ true = w.adds.units.same.kind ∙ empty.info.plain in
    let held = units_held m.is_big m (meaning new.debug_info.0) (meaning before.debug_abbrev.0).size us w.kept empty.info (law new.debug_info.0 plain) empty.abbrevs.size w.adds.units in
    let file = subst (λ b. IsFileRead (record { units = us; layout = at_zero }) w.kept b held.0 (tables_of us)) (sym w.adds.units.same.order) held.1.1 in
    record {
      info = held.0;
      abbrevs = tables_of us;
      info_told = held.1.0;
      abbrevs_told = w.adds.tables.told ∙ ap (λ t. followed t (Some (tables_of us))) empty.abbrevs.bytes ∙ nothing-followed (Some (tables_of us));
      built = file.0;
    }

pub all_units_held : {W : Type 0} (meaning : W → Meaning) → ((w : W) → (meaning w).is_plain ≡ true → (meaning w).records ≡ []) → (old new : Sections W) (line_strings strings : List (List ℕ)) (us vs : List UnitValue) →
    CompletesAny meaning old new us vs (elsewhere meaning old line_strings strings) → HoldsAllUnits meaning old new line_strings strings us
all_units_held meaning law old new line_strings strings us vs any before ws kept empty f keeps =
    units_whole meaning law before new (written_from (ends_of meaning before) (ws ++ unwritten_from 0 line_strings strings us)) empty (file_completed meaning before old new line_strings strings us vs ws kept empty.fixups f keeps any)
