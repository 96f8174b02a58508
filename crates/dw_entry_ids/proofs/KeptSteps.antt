-- A walk over entries of which some are kept, one entry further.
use Rattle.std.proofs.Common.{Bor, ◌≡◌, ◌∙◌, sym, ap, ℕ, zero, suc, ◌+◌, ◌-◌, ◌^◌, ◌<◌, ◌≤◌, ◌==◌, ◌||◌, List, [], ◌∷◌, ◌++◌, length, map, get_or, Bool, true, false, if◌then◌else◌, Option, Some, None, Ok, refl, arith, append_assoc, append-nil, length-append}
use Rattle.std.specs.Prelude.{IfSome, nat_lt}
use Rattle.std.specs.Option.{is_some, option_copied, unwrap_or}
use Rattle.std.proofs.lemmas.Bool.Decides.{nat_tests}
use Rattle.dw_base.specs.Abbreviations.{Declaration}
use Rattle.dw_base.specs.Entries.{ReadEntry, Mark, Row, next_depth}
use Rattle.dw_base.specs.declared.common.Encoding.{Encoding}
use Rattle.dw_base.specs.declared.ids.UnitEntryId.{UnitEntryId}
use Rattle.dw_base.specs.declared.offsets.UnitSectionOffset.{UnitSectionOffset}
use Rattle.dw_read.proofs.Items.{then_parts}
use Rattle.dw_read.proofs.Lefts.{length-left}
use Rattle.dw_read.proofs.Shorter.{mark_shorter}
use Rattle.dw_read.specs.FormReasons.{mark_read}
use Rattle.dw_read.specs.Reading.{Reading, IsReading, left}
use Rattle.dw_read.specs.UnitHeaders.{header_size}
use Rattle.dw_read.specs.declared.entry.DebuggingInformationEntry.{DebuggingInformationEntry}
use Rattle.dw_read_units.specs.Walks.{rows_read}
use Rattle.dw_read_units.specs.declared.dwarf.Unit.{Unit as UnitFields}
use Rattle.dw_entry_ids.specs.Ids.{entry_count, is_entry}
use Rattle.dw_entry_ids.specs.KeptRows.{keep_of, kept_rows, images_of, row_stays, mark_stays, mark_image, row_image}
use Rattle.dw_entry_ids.specs.KeptWalk.{StandsKept, HandsOutKept, number_if}
use Rattle.dw_entry_ids.specs.Plans.{parent_behind}
use Rattle.dw_entry_ids.specs.UnitCursor.{StandsBetween, HandsOutRow}
use Rattle.dw_entry_ids.specs.declared.kept_rows.KeptRows.{KeptRows}
use Rattle.dw_entry_ids.proofs.KeptLaws.{first_alike, images_more, images_none, images_past, kept_fewer, kept_nil, kept_past, rows_kept_more}
use Rattle.dw_entry_ids.proofs.Planning.{count_more}
use Rattle.dw_entry_ids.proofs.Steps.{count_one}

-- what stands under a number, or the root
image_there : (xs : List UnitEntryId) (n : ℕ) (d : UnitEntryId) → n < length xs → (get_or xs n d).0 ≡ get_or (map (λ (x : UnitEntryId). x.0) xs) n 0
image_there [] n d l = absurd (omega (arith, l))
image_there (x ∷ xs) zero d l = refl
image_there (x ∷ xs) (suc n) d l = image_there xs n d (omega (arith, l))

image_past : (xs : List UnitEntryId) (n : ℕ) → length xs ≤ n → get_or (map (λ (x : UnitEntryId). x.0) xs) n 0 ≡ 0
image_past [] n l = refl
image_past (x ∷ xs) zero l = absurd (omega (arith, l))
image_past (x ∷ xs) (suc n) l = image_past xs n (omega (arith, l))

pub image_is : (xs : List UnitEntryId) (n : ℕ) (o : Option (Bor UnitEntryId)) (z : UnitEntryId) → is_some o ≡ nat_lt n (length xs) → IfSome o (λ x. x.now ≡ get_or xs n x.now) → z.0 ≡ 0 → (unwrap_or (option_copied o) z).0 ≡ get_or (map (λ (x : UnitEntryId). x.0) xs) n 0
image_is xs n None z i h e = e ∙ sym (image_past xs n (grind (arith, nat_tests, i)))
image_is xs n (Some x) z i h e = ap (λ (y : UnitEntryId). y.0) h ∙ image_there xs n x.now (grind (arith, nat_tests, i))

-- each row begins before the end of the bytes
abbrev rest_of : List Row → List Row
rest_of [] = []
rest_of (r ∷ rows) = rows

rows_within : (fuel : ℕ) (big : Bool) (e : Encoding) (table : List Declaration) (from depth : ℕ) (bytes : List ℕ) (rows front back : List Row) (r : Row) → rows_read fuel big e table from depth bytes ≡ Ok rows → rows ≡ front ++ r ∷ back → r.from < from + length bytes
unfolding rows_read
rows_within fuel big e table from depth [] rows front back r h s =
    let same : [] ≡ rows = cc in
    let none : length (front ++ r ∷ back) ≡ 0 = ap (λ (xs : List Row). length xs) (sym (same ∙ s)) in
    let some : length (front ++ r ∷ back) ≡ length front + length (r ∷ back) = length-append front (r ∷ back) in
    absurd (omega (arith, none, some))
rows_within zero big e table from depth (b ∷ bs) rows front back r h s = absurd (cc)
rows_within (suc fuel) big e table from depth (b ∷ bs) rows [] back r h s =
    let x = then_parts (mark_read big e table (b ∷ bs)) _ rows h in
    let more = then_parts (rows_read fuel big e table _ (next_depth x.0.0 depth) x.0.1) _ rows x.2 in
    let one : Row = record { from = from; depth = depth; mark = x.0.0; to = from + (length (b ∷ bs) - length x.0.1) } in
    let same : one ∷ more.0 ≡ rows = cc in
    let here : from ≡ r.from = ap (λ (l : List Row). (get_or l 0 one).from) (same ∙ s) in
    omega (arith, here)
rows_within (suc fuel) big e table from depth (b ∷ bs) rows (z ∷ front) back r h s =
    let x = then_parts (mark_read big e table (b ∷ bs)) _ rows h in
    let to : ℕ = from + (length (b ∷ bs) - length x.0.1) in
    let more = then_parts (rows_read fuel big e table to (next_depth x.0.0 depth) x.0.1) _ rows x.2 in
    let less : length x.0.1 < length (b ∷ bs) = mark_shorter big e table (b ∷ bs) x.0 x.1 in
    let same : record { from = from; depth = depth; mark = x.0.0; to = to } ∷ more.0 ≡ rows = cc in
    let later : r.from < to + length x.0.1 = rows_within fuel big e table to (next_depth x.0.0 depth) x.0.1 more.0 front back r more.1 (ap rest_of (same ∙ s)) in
    omega (arith, later, less)

module _ {R E : Type 0} (reading : R → Reading) (u : UnitFields R E) (kept : Option (List UnitSectionOffset)) where
  abbrev keep : ℕ → Bool
  keep = keep_of kept

  abbrev from : ℕ
  from = u.header.offset.0

  abbrev stay : List Row → List Row
  stay rows = kept_rows keep from rows

  abbrev numbers : List UnitEntryId → List ℕ
  numbers xs = map (λ (x : UnitEntryId). x.0) xs

  -- before the first row
  pub kept_begins : (c : KeptRows R E) (all : List Row) → StandsBetween reading u c.rows [] all → from ≤ (reading u.header.body).place → c.kept.now ≡ kept → c.start ≡ from → c.count ≡ 0 → c.images.items ≡ [] → StandsKept reading u kept c [] all
  kept_begins c all s behind keeps start count images = record {
    rows = s;
    behind = behind;
    keeps = keeps;
    start = start;
    count = count ∙ sym (ap entry_count (kept_nil keep from 0));
    images = ap numbers images ∙ sym (images_none keep from);
  }

  module _ (old new : KeptRows R E) (front rest : List Row) (s : StandsKept reading u kept old front rest) (entry : DebuggingInformationEntry R E) (number above : ℕ) (h : HandsOutRow reading u front rest new.rows entry number above) where
    abbrev next_front : List Row
    next_front = (front ++ h.nulls) ++ h.row ∷ []

    -- the entry's place in the section is a number of 64 bits
    pub place_within : IsReading (reading u.header.body) → old.start + entry.offset.0 < 2 ^ 64
    place_within i =
        let r = reading u.header.body in
        let within : h.row.from < header_size reading u.header + length (left r) =
        rows_within (length (left r)) r.is_big u.header.fields.encoding u.abbreviations (header_size reading u.header) 0 (left r) (next_front ++ h.back) (front ++ h.nulls) h.back h.row h.stands.all (append_assoc (front ++ h.nulls) (h.row ∷ []) h.back) in
        let long : length (left r) ≡ r.end - r.place = length-left r i in
        let begins : u.header.offset.0 ≤ r.place = s.behind in
        let ends : r.place ≤ r.end = i.place in
        let small : r.end < 2 ^ 64 = i.small in
        let start : old.start ≡ u.header.offset.0 = s.start in
        let offset : entry.offset.0 ≡ h.row.from = h.offset in
        omega (arith, within, long, begins, ends, small, start, offset)

    before : entry_count (front ++ h.nulls) ≡ entry_count front
    before = let both : entry_count (front ++ h.nulls) ≡ entry_count front + entry_count h.nulls = count_more front h.nulls in omega (arith, both, h.none)

    -- there is room to count one entry more
    pub room : IsReading (reading new.rows.rows.input) → old.count + 1 < 2 ^ 64
    room i =
        let counted : new.rows.count ≡ entry_count next_front = h.stands.counted in
        let one : entry_count next_front ≡ entry_count (front ++ h.nulls) + 1 = count_one (front ++ h.nulls) h.row ∙ ap (λ (m : Mark ReadEntry). entry_count (front ++ h.nulls) + (if is_entry m then 1 else 0)) h.mark in
        let few : new.rows.count ≤ (reading new.rows.rows.input).place = h.stands.few in
        let place : (reading new.rows.rows.input).place ≤ (reading new.rows.rows.input).end = i.place in
        let small : (reading new.rows.rows.input).end < 2 ^ 64 = i.small in
        let fewer : entry_count (stay front) ≤ entry_count front = kept_fewer keep from 0 front in
        omega (arith, counted, one, few, place, small, fewer, before, s.count)

    stays_is : (b : Bool) → b ≡ (old.count == 0 || keep_of old.kept.now (old.start + entry.offset.0)) → row_stays keep from (entry_count front) h.row ≡ b
    stays_is b e =
        let at : old.start + entry.offset.0 ≡ from + h.row.from = omega (arith, s.start, h.offset) in
        ap (mark_stays (entry_count front == 0 || keep (from + h.row.from))) h.mark
        ∙ ap (λ (c : Bool). c || keep (from + h.row.from)) (first_alike keep from front ∙ ap (λ (n : ℕ). n == 0) (sym s.count))
        ∙ ap (λ (p : ℕ). old.count == 0 || keep p) (sym at)
        ∙ ap (λ (o : Option (List UnitSectionOffset)). old.count == 0 || keep_of o (old.start + entry.offset.0)) (sym s.keeps)
        ∙ sym e

    -- the next entry is handed out
    pub hands : (b : Bool) (parent : ℕ) → b ≡ (old.count == 0 || keep_of old.kept.now (old.start + entry.offset.0)) → parent ≡ get_or (numbers old.images.items) above 0 → new.kept ≡ old.kept → new.start ≡ old.start → new.count ≡ old.count + (if b then 1 else 0)
        → numbers new.images.items ≡ numbers old.images.items ++ (if b then old.count else parent) ∷ [] → HandsOutKept reading u kept front rest new entry (number_if reading u kept b old.count) parent
    hands b parent e above_is keeps start count images =
        let stays : row_stays keep from (entry_count front) h.row ≡ b = stays_is b e in
        let past : stay (front ++ h.nulls) ≡ stay front ++ h.nulls = kept_past keep from front h.nulls h.none in
        let stays_now : row_stays keep from (entry_count (front ++ h.nulls)) h.row ≡ b = ap (λ (n : ℕ). row_stays keep from n h.row) before ∙ stays in
        let none : entry_count (stay (front ++ h.nulls)) ≡ entry_count (stay front) = ap entry_count past ∙ (let both : entry_count (stay front ++ h.nulls) ≡ entry_count (stay front) + entry_count h.nulls = count_more (stay front) h.nulls in omega (arith, both, h.none)) in
        let was : images_of keep from (front ++ h.nulls) ≡ numbers old.images.items = images_past keep from front h.nulls h.none ∙ sym s.images in
        let more : stay next_front ≡ stay (front ++ h.nulls) ++ (if b then h.row ∷ [] else []) = rows_kept_more keep from (front ++ h.nulls) h.row ∙ ap (λ (c : Bool). stay (front ++ h.nulls) ++ (if c then h.row ∷ [] else [])) stays_now in
        let image : row_image keep from (images_of keep from (front ++ h.nulls)) (front ++ h.nulls) h.row ≡ (if b then old.count else parent) ∷ [] =
        ap (mark_image (row_stays keep from (entry_count (front ++ h.nulls)) h.row) (entry_count (stay (front ++ h.nulls))) (get_or (images_of keep from (front ++ h.nulls)) (parent_behind (front ++ h.nulls) h.row.depth) 0)) h.mark
        ∙ ap (λ (c : Bool). (if c then entry_count (stay (front ++ h.nulls)) else get_or (images_of keep from (front ++ h.nulls)) (parent_behind (front ++ h.nulls) h.row.depth) 0) ∷ []) stays_now
        ∙ ap (λ (n : ℕ). (if b then n else get_or (images_of keep from (front ++ h.nulls)) (parent_behind (front ++ h.nulls) h.row.depth) 0) ∷ []) (none ∙ sym s.count)
        ∙ ap (λ (n : ℕ). (if b then old.count else n) ∷ []) (ap (λ (xs : List ℕ). get_or xs (parent_behind (front ++ h.nulls) h.row.depth) 0) was ∙ ap (λ (n : ℕ). get_or (numbers old.images.items) n 0) (sym h.parent_is) ∙ sym above_is) in
        record {
          number = number;
          above = above;
          row = h;
          id_is = ap (λ (n : ℕ). number_if reading u kept b n) s.count ∙ ap (λ (c : Bool). number_if reading u kept c (entry_count (stay front))) (sym stays);
          parent_is = above_is ∙ ap (λ (xs : List ℕ). get_or xs above 0) s.images;
          stands = record {
            rows = h.stands;
            behind = s.behind;
            keeps = ap (λ k. k.now) keeps ∙ s.keeps;
            start = start ∙ s.start;
            count = count ∙ counts b more none;
            images = images ∙ ap (λ (xs : List ℕ). xs ++ (if b then old.count else parent) ∷ []) (sym was) ∙ ap (λ (xs : List ℕ). images_of keep from (front ++ h.nulls) ++ xs) (sym image) ∙ sym (images_more keep from (front ++ h.nulls) h.row);
          };
        }
      where
        counts : (c : Bool) → stay next_front ≡ stay (front ++ h.nulls) ++ (if c then h.row ∷ [] else []) → entry_count (stay (front ++ h.nulls)) ≡ entry_count (stay front) → old.count + (if c then 1 else 0) ≡ entry_count (stay next_front)
        counts true more none =
            let one : entry_count (stay (front ++ h.nulls) ++ h.row ∷ []) ≡ entry_count (stay (front ++ h.nulls)) + 1 = count_one (stay (front ++ h.nulls)) h.row ∙ ap (λ (m : Mark ReadEntry). entry_count (stay (front ++ h.nulls)) + (if is_entry m then 1 else 0)) h.mark in
            omega (arith, ap entry_count more, one, none, s.count)
        counts false more none = omega (arith, ap entry_count (more ∙ append-nil (stay (front ++ h.nulls))), none, s.count)
