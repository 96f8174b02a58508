-- The ids of entries that are handed out have room.
use Rattle.std.proofs.Common.{◌≡◌, ◌∙◌, sym, ap, subst, ℕ, zero, suc, ◌+◌, ◌-◌, ◌^◌, ◌<◌, ◌≤◌, List, [], ◌∷◌, ◌++◌, get_or, Bool, true, false, Option, Some, None, refl, arith, append_assoc}
use Rattle.std.specs.Prelude.{IfSome}
use Rattle.dw_base.specs.Entries.{Mark, Open, Null, ReadEntry, Row}
use Rattle.dw_base.specs.declared.ids.UnitEntryId.{UnitEntryId}
use Rattle.dw_base.specs.declared.offsets.UnitSectionOffset.{UnitSectionOffset}
use Rattle.dw_entry_ids.proofs.KeptLaws.{kept_append}
use Rattle.dw_entry_ids.proofs.KeptNext.{next_number}
use Rattle.dw_entry_ids.proofs.Planning.{count_more}
use Rattle.dw_entry_ids.specs.Ids.{entry_count}
use Rattle.dw_entry_ids.specs.KeptRows.{keep_of, kept_behind, kept_rows, images_behind, images_of, mark_image, row_image, row_stays}
use Rattle.dw_entry_ids.specs.KeptWalk.{StandsKept, HandsOutKept}
use Rattle.dw_entry_ids.specs.Plans.{parent_behind}
use Rattle.dw_entry_ids.specs.declared.kept_rows.KeptRows.{KeptRows}
use Rattle.dw_read.specs.Reading.{Reading}
use Rattle.dw_read.specs.declared.entry.DebuggingInformationEntry.{DebuggingInformationEntry}
use Rattle.dw_read_units.specs.declared.dwarf.Unit.{Unit as UnitFields}
use Rattle.dw_dwarf.proofs.GrowingBehind.{id_most}
use Rattle.dw_dwarf.specs.Readable.{IsReadable, rows_held, rows_or_none}
use Rattle.dw_dwarf.specs.UnitIds.{IsFree, id_of}

-- no number of a list is above a bound, nor is what stands past its end
abbrev AreWithin : ℕ → List ℕ → Type 0
AreWithin bound xs = (i : ℕ) → get_or xs i 0 ≤ bound

within_more : (bound y : ℕ) (xs : List ℕ) → AreWithin bound xs → y ≤ bound → AreWithin bound (xs ++ y ∷ [])
within_more bound y [] h l zero = l
within_more bound y [] h l (suc i) = omega arith
within_more bound y (x ∷ xs) h l zero = h 0
within_more bound y (x ∷ xs) h l (suc i) = within_more bound y xs (λ j. h (suc j)) l i

module _ (keep : ℕ → Bool) (from bound : ℕ) where
  image_within : (images : List ℕ) (is : Bool) (own above : ℕ) (m : Mark ReadEntry) → AreWithin bound images → own ≤ bound → above ≤ bound → AreWithin bound (images ++ mark_image is own above m)
  image_within images true own above (Open e) h l k = within_more bound own images h l
  image_within images false own above (Open e) h l k = within_more bound above images h k
  image_within images is own above Null h l k = subst (AreWithin bound) (sym (nothing images)) h
    where
      nothing : (xs : List ℕ) → xs ++ [] ≡ xs
      nothing [] = refl
      nothing (x ∷ xs) = ap (λ (ys : List ℕ). x ∷ ys) (nothing xs)

  -- what stands for an entry is numbered among those that are kept
  images_within : (images : List ℕ) (front rows : List Row) → AreWithin bound images → entry_count (kept_rows keep from (front ++ rows)) ≤ bound → AreWithin bound (images_behind keep from images front rows)
  unfolding images_behind
  images_within images front [] h l = h
  images_within images front (r ∷ rows) h l =
      let split : entry_count (kept_rows keep from (front ++ r ∷ rows)) ≡ entry_count (kept_rows keep from front) + entry_count (kept_behind keep from (entry_count front + 0) (r ∷ rows)) =
      ap entry_count (kept_append keep from 0 front (r ∷ rows)) ∙ count_more (kept_rows keep from front) (kept_behind keep from (entry_count front + 0) (r ∷ rows)) in
      images_within (images ++ row_image keep from images front r) (front ++ r ∷ []) rows
      (image_within images (row_stays keep from (entry_count front) r) (entry_count (kept_rows keep from front)) (get_or images (parent_behind front r.depth) 0) r.mark h (omega (arith, split, l)) (h (parent_behind front r.depth)))
      (subst (λ (xs : List Row). entry_count (kept_rows keep from xs) ≤ bound) (sym (append_assoc front (r ∷ []) rows)) l)

module _ {R E : Type 0} (reading : R → Reading) (u : UnitFields R E) (kept : Option (List UnitSectionOffset)) (behind : Option ℕ) (entries : ℕ) (c new : KeptRows R E) (front rest : List Row) (entry : DebuggingInformationEntry R E) (number : Option UnitEntryId) (parent : ℕ) where
  abbrev counted : ℕ
  counted = entry_count (kept_rows (keep_of kept) u.header.offset.0 front)

  -- no more entries were handed out than the unit has
  counted_within : IsReadable reading (keep_of kept) u entries → StandsKept reading u kept c front rest → counted ≤ entries
  counted_within readable stands =
      let from : ℕ = u.header.offset.0 in
      let back : List Row = kept_behind (keep_of kept) from (entry_count front + 0) rest in
      let all : rows_held reading u ≡ front ++ rest = ap rows_or_none stands.rows.all in
      let split : entry_count (kept_rows (keep_of kept) from (front ++ rest)) ≡ counted + entry_count back = ap entry_count (kept_append (keep_of kept) from 0 front rest) ∙ count_more (kept_rows (keep_of kept) from front) back in
      let count : entries ≡ entry_count (kept_rows (keep_of kept) from (front ++ rest)) = readable.1 ∙ ap (λ (rows : List Row). entry_count (kept_rows (keep_of kept) from rows)) all in
      omega (arith, split, count)

  module _ (free : IsFree behind) (room : id_of behind entries < 2 ^ 64) (readable : IsReadable reading (keep_of kept) u entries) (stands : StandsKept reading u kept c front rest) (hands : HandsOutKept reading u kept front rest new entry number parent) where
    has_room : (n : ℕ) → n ≤ counted → id_of behind n ≤ 2 ^ 64 - 1
    has_room n l =
        let within : counted ≤ entries = counted_within readable stands in
        let most : id_of behind n ≤ id_of behind entries = id_most behind n entries free (omega (arith, l, within)) in
        omega (arith, most, room)

    -- so the id of the entry has room, and that of the one under which it stands
    pub number_fits : IfSome number (λ n. id_of behind n.0 ≤ 2 ^ 64 - 1)
    number_fits = go number refl
      where
        go : (o : Option UnitEntryId) → number ≡ o → IfSome o (λ n. id_of behind n.0 ≤ 2 ^ 64 - 1)
        go None e = tt
        go (Some n) e =
            let own : n.0 ≡ counted = next_number reading u kept front rest new entry (Some n) parent (subst (λ (o : Option UnitEntryId). HandsOutKept reading u kept front rest new entry o parent) e hands) n refl in
            has_room n.0 (omega (arith, own))

    pub parent_fits : id_of behind parent ≤ 2 ^ 64 - 1
    parent_fits =
        let above : get_or (images_of (keep_of kept) u.header.offset.0 front) hands.above 0 ≤ counted = images_within (keep_of kept) u.header.offset.0 counted [] [] front (λ i. none i) (let l : counted ≤ counted = omega arith in l) hands.above in
        has_room parent (omega (arith, above, hands.parent_is))
      where
        none : (i : ℕ) → get_or [] i 0 ≤ counted
        none i = omega arith
