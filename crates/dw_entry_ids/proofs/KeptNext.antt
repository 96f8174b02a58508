-- The next entry of a unit of which some are kept, among those that are.
use Rattle.std.proofs.Common.{◌≡◌, ◌∙◌, sym, ap, ℕ, ◌+◌, ◌==◌, ◌||◌, List, [], ◌∷◌, ◌++◌, Bool, true, false, if◌then◌else◌, Option, Some, None, refl, arith, append-nil, get_or}
use Rattle.dw_base.specs.Entries.{Row}
use Rattle.dw_base.specs.declared.ids.UnitEntryId.{UnitEntryId}
use Rattle.dw_base.specs.declared.offsets.UnitSectionOffset.{UnitSectionOffset}
use Rattle.dw_read.specs.Reading.{Reading}
use Rattle.dw_read.specs.declared.entry.DebuggingInformationEntry.{DebuggingInformationEntry}
use Rattle.dw_read_units.specs.declared.dwarf.Unit.{Unit as UnitFields}
use Rattle.dw_entry_ids.specs.Ids.{entry_count}
use Rattle.dw_entry_ids.specs.KeptRows.{keep_of, kept_rows, images_of, row_stays, mark_stays, IsClosed}
use Rattle.dw_entry_ids.specs.KeptWalk.{HandsOutKept}
use Rattle.dw_entry_ids.specs.Plans.{parent_behind}
use Rattle.dw_entry_ids.specs.declared.kept_rows.KeptRows.{KeptRows}
use Rattle.dw_entry_ids.proofs.KeptLaws.{images_past, kept_past, own_parent, rows_kept_more}
use Rattle.dw_entry_ids.proofs.Planning.{count_more}

stays_by : (b : Bool) (n : ℕ) (i : UnitEntryId) → (if b then Some (let x : UnitEntryId = record { 0 = n } in x) else None) ≡ Some i → (b ≡ true) × (i.0 ≡ n)
stays_by true n i h = (refl, let same : record { 0 = n } ≡ i = cc h in sym (ap (λ (x : UnitEntryId). x.0) same))
stays_by false n i h = absurd (let clash : None ≡ Some i = h in cc)

left_by : (b : Bool) (n : ℕ) → (if b then Some (let x : UnitEntryId = record { 0 = n } in x) else None) ≡ None → b ≡ false
left_by true n h = absurd (let x : UnitEntryId = record { 0 = n } in let clash : Some x ≡ None = h in cc)
left_by false n h = refl

module _ {R E : Type 0} (reading : R → Reading) (u : UnitFields R E) (kept : Option (List UnitSectionOffset)) (front rest : List Row) (new : KeptRows R E) (entry : DebuggingInformationEntry R E) (id : Option UnitEntryId) (parent : ℕ) (h : HandsOutKept reading u kept front rest new entry id parent) where
  abbrev keep : ℕ → Bool
  keep = keep_of kept

  abbrev from : ℕ
  from = u.header.offset.0

  abbrev stay : List Row → List Row
  stay rows = kept_rows keep from rows

  -- the rows before the entry's
  abbrev above_here : List Row
  above_here = front ++ h.row.nulls

  before : entry_count above_here ≡ entry_count front
  before = let both : entry_count (front ++ h.row.nulls) ≡ entry_count front + entry_count h.row.nulls = count_more front h.row.nulls in omega (arith, both, h.row.none)

  past : stay above_here ≡ stay front ++ h.row.nulls
  past = kept_past keep from front h.row.nulls h.row.none

  more_by : (b : Bool) → row_stays keep from (entry_count front) h.row.row ≡ b → stay (above_here ++ h.row.row ∷ []) ≡ (stay front ++ h.row.nulls) ++ (if b then h.row.row ∷ [] else [])
  more_by b e =
      rows_kept_more keep from above_here h.row.row
      ∙ ap (λ (c : Bool). stay above_here ++ (if c then h.row.row ∷ [] else [])) (ap (λ (n : ℕ). row_stays keep from n h.row.row) before ∙ e)
      ∙ ap (λ (rows : List Row). rows ++ (if b then h.row.row ∷ [] else [])) past

  -- one that is left out
  pub next_left_out : id ≡ None → stay (above_here ++ h.row.row ∷ []) ≡ stay front ++ h.row.nulls
  next_left_out e = more_by false (left_by _ _ (sym h.id_is ∙ e)) ∙ append-nil (stay front ++ h.row.nulls)

  -- one that is kept has the next number
  pub next_number : (i : UnitEntryId) → id ≡ Some i → i.0 ≡ entry_count (stay front)
  next_number i e = (stays_by _ _ i (sym h.id_is ∙ e)).1

  pub next_stays : (i : UnitEntryId) → id ≡ Some i → stay (above_here ++ h.row.row ∷ []) ≡ (stay front ++ h.row.nulls) ++ h.row.row ∷ []
  next_stays i e = more_by true (stays_by _ _ i (sym h.id_is ∙ e)).0

  -- and stands under its own parent, where that is kept with it
  pub next_parent : (i : UnitEntryId) (all : List Row) → id ≡ Some i → IsClosed keep from all → all ≡ (above_here ++ h.row.row ∷ []) ++ h.row.back → parent ≡ parent_behind (stay front ++ h.row.nulls) h.row.row.depth
  next_parent i all e closed is =
      let stays : (entry_count above_here == 0 || keep (from + h.row.row.from)) ≡ true =
      ap (λ (n : ℕ). n == 0 || keep (from + h.row.row.from)) before ∙ ap (mark_stays (entry_count front == 0 || keep (from + h.row.row.from))) (sym h.row.mark) ∙ (stays_by _ _ i (sym h.id_is ∙ e)).0 in
      h.parent_is
      ∙ ap (λ (n : ℕ). get_or (images_of keep from front) n 0) h.row.parent_is
      ∙ ap (λ (xs : List ℕ). get_or xs (parent_behind above_here h.row.row.depth) 0) (sym (images_past keep from front h.row.nulls h.row.none))
      ∙ sym (own_parent keep from all above_here h.row.row h.row.back _ closed is h.row.mark stays)
      ∙ ap (λ (rows : List Row). parent_behind rows h.row.row.depth) past
