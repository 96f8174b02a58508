-- The root of a unit that is handed out.
use Rattle.std.proofs.Common.{◌≡◌, ◌∙◌, ap, subst, ℕ, ◌≤◌, [], Bool, true, if◌then◌else◌, Option, Some, None, Ok, Err, arith}
use Rattle.std.specs.Prelude.{Result}
use Rattle.std.specs.Result.{result_and}
use Rattle.dw_base.specs.declared.endianity.Endianity as Endianity
use Rattle.dw_base.specs.declared.ids.UnitEntryId.{UnitEntryId}
use Rattle.dw_entry_ids.specs.Ids.{entry_count}
use Rattle.dw_read.specs.Reading.{Reading}
use Rattle.dw_read.specs.declared.entry.DebuggingInformationEntry.{DebuggingInformationEntry}
use Rattle.dw_read.specs.declared.reader.Reader as Reader
use Rattle.dw_sources.specs.declared.convert_error.ConvertError.{ConvertError}
use Rattle.dw_dwarf.specs.Converters.{HandsOutEntry, ReadsEntry, held, above, behind}
use Rattle.dw_dwarf.specs.UnitIds.{id_of}
use Rattle.dw_dwarf.specs.Readable.{IsReadable, rows_held}
use Rattle.dw_entry_ids.specs.KeptRows.{keep_of, kept_rows, mark_stays, row_stays}
use Rattle.dw_entry_ids.specs.KeptWalk.{HandsOutKept}
use Rattle.dw_entry_ids.proofs.KeptLaws.{kept_nil, kept_nulls}
use Rattle.dw_dwarf.specs.UnitEntries.{IsLess}
use Rattle.dw_dwarf.specs.declared.convert.convert_unit.ConvertUnit.{ConvertUnit}
use Rattle.dw_dwarf.specs.SplitSections.{HandsOutSplit, HandsOutSplitUnit}
use Rattle.dw_dwarf.specs.UnitSections.{HandsOut, HandsOutUnit}
use Rattle.dw_dwarf.specs.declared.convert.split_section.ConvertSplitUnitSection.{ConvertSplitUnitSection}
use Rattle.dw_dwarf.specs.declared.convert.unit_entry.ConvertUnitEntry.{ConvertUnitEntry}
use Rattle.dw_dwarf.specs.declared.convert.unit_section.ConvertUnitSection.{ConvertUnitSection}

module _ {R E : Type 0} {RG : Reader.Ghosts R E} {EG : Endianity.Ghosts E} (reading : R → Reading) (c : ConvertUnit R E RG EG) (entry : ConvertUnitEntry R E) where
  abbrev kept_here : ℕ → Bool
  kept_here = keep_of c.given.kept.now

  abbrev start_here : ℕ
  start_here = (held c).header.offset.0

  pub record IsRoot : Type 0 where
    pub as_read : DebuggingInformationEntry R E
    pub parent : ℕ
    pub row : HandsOutKept reading (held c) c.given.kept.now [] (rows_held reading (held c)) c.rows as_read (Some (record { 0 = 0 })) parent
    pub less : IsLess reading as_read entry
    pub under : entry.parent ≡ None
    pub read_unit : entry.read_unit ≡ c.read_unit

  root_from : (id : Option UnitEntryId) → HandsOutEntry reading [] (rows_held reading (held c)) c entry id → IsRoot
  root_from id h =
      let r = h.row.row.row in
      let first : row_stays kept_here start_here 0 r ≡ true = ap (mark_stays true) h.row.row.mark in
      let none : entry_count (kept_rows kept_here start_here []) ≡ 0 = ap entry_count (kept_nil kept_here start_here 0) in
      let root : h.number ≡ Some (record { 0 = 0 }) =
      h.row.id_is
      ∙ ap (λ (b : Bool). if b then Some (record { 0 = entry_count (kept_rows kept_here start_here []) }) else None) first
      ∙ ap (λ (n : ℕ). Some (record { 0 = n })) none in
      record {
        as_read = h.as_read;
        parent = h.parent;
        row = subst (λ (o : Option UnitEntryId). HandsOutKept reading (held c) c.given.kept.now [] (rows_held reading (held c)) c.rows h.as_read o h.parent) root h.row;
        less = h.less;
        under = h.under ∙ ap (λ (o : Option UnitEntryId). above o (id_of (behind c) h.parent)) root;
        read_unit = h.read_unit;
      }

  -- the first entry that is read of a unit is its root
  root_read : (entries : ℕ) (o : Option (Option UnitEntryId)) → IsReadable reading kept_here (held c) entries → ReadsEntry reading [] (rows_held reading (held c)) c entry (Ok o) → IsRoot
  root_read entries None r h =
      let none : entry_count (rows_held reading (held c)) ≡ 0 = h.none in
      let stay : entry_count (kept_rows kept_here start_here (rows_held reading (held c))) ≡ entry_count (rows_held reading (held c)) = ap entry_count (kept_nulls kept_here start_here 0 (rows_held reading (held c)) none) in
      let counted : entries ≡ entry_count (kept_rows kept_here start_here (rows_held reading (held c))) = r.1 in
      let some : 1 ≤ entries = r.2 in
      absurd (omega (arith, none, stay, counted, some))
  root_read entries (Some id) r h = root_from id h

  -- what is handed out with its root, or refused
  pub root_or_refused : (s : ConvertUnitSection R E RG EG) (entries : ℕ) (r : Result (Option (Option UnitEntryId)) ConvertError) → IsReadable reading kept_here (held c) entries → ReadsEntry reading [] (rows_held reading (held c)) c entry r → (IsRoot → HandsOutUnit reading s c entry) → HandsOut reading s (result_and r (Ok (Some (c, entry))))
  root_or_refused s entries (Ok o) h r f = f (root_read entries o h r)
  root_or_refused s entries (Err e) h r f = r

  -- the same for a unit that was split off
  pub split_or_refused : (s : ConvertSplitUnitSection R E RG EG) (entries : ℕ) (r : Result (Option (Option UnitEntryId)) ConvertError) → IsReadable reading kept_here (held c) entries → ReadsEntry reading [] (rows_held reading (held c)) c entry r → (IsRoot → HandsOutSplitUnit reading s c entry) → HandsOutSplit reading s (result_and r (Ok (c, entry)))
  split_or_refused s entries (Ok o) h r f = f (root_read entries o h r)
  split_or_refused s entries (Err e) h r f = r
