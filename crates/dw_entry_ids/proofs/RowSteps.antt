-- The rows of a unit whose entries are numbered.
use Rattle.std.proofs.Common.{◌≡◌, ◌∙◌, sym, ap, subst, ℕ, ◌+◌, ◌^◌, ◌<◌, ◌≤◌, ◌==◌, ◌&&◌, ◌||◌, List, [], ◌∷◌, ◌++◌, length, None, Bool, true, false, if◌then◌else◌, refl, arith}
use Rattle.std.proofs.lemmas.List.{append-nil}
use Rattle.dw_base.specs.Abbreviations.{Declaration}
use Rattle.dw_base.specs.Entries.{ReadEntry, Mark, Open, Null, Row}
use Rattle.dw_base.specs.declared.ids.UnitId.{UnitId}
use Rattle.dw_read.specs.Reading.{Reading, IsReading, left}
use Rattle.dw_read.specs.Rows.{BeginsAt}
use Rattle.dw_read.specs.declared.entries.EntriesRaw.{EntriesRaw}
use Rattle.dw_read.specs.declared.unit_header.UnitHeader.{UnitHeader}
use Rattle.dw_read.proofs.Lefts.{shorter}
use Rattle.dw_read_units.proofs.RowWalk.{WalkedRows, row_here, walked_none, walked_more, walked_end, row_shorter}
use Rattle.dw_entry_ids.specs.Ids.{Id, ids_at, later_or, begins_at, is_entry, entry_count, number_among, with_unit, AreFound}
use Rattle.dw_entry_ids.specs.KeptRows.{kept_rows, mark_stays, row_stays}
use Rattle.dw_entry_ids.specs.Units.{NumbersRow, NumbersRows}
use Rattle.dw_entry_ids.specs.declared.ids.EntryIds.{EntryIds}
use Rattle.dw_entry_ids.proofs.Found.{found_none, found_more, found_later}
use Rattle.dw_entry_ids.proofs.KeptLaws.{first_alike, kept_nil, rows_kept_more}
use Rattle.dw_entry_ids.proofs.Steps.{count_one, kept_none, kept_more, mark_id}

module _ {R E : Type 0} (keep : ℕ → Bool) (reading : R → Reading) (h : UnitHeader R E) (table : List Declaration) (k : UnitId) (before : EntryIds) where
  abbrev stay : List Row → List Row
  stay rows = kept_rows keep h.offset.0 rows

  -- the rows up to here are numbered
  pub record Numbered (now : EntriesRaw R E) (count : ℕ) (ids : EntryIds) : Type 0 where
    pub front : List Row
    pub walked : WalkedRows reading h table now front
    pub counted : count ≡ entry_count (stay front)
    pub few : count ≤ (reading now.input).place
    pub end : (reading now.input).end ≡ (reading h.body).end
    pub found : AreFound h.offset.0 (stay front) (reading now.input).place
    pub kept : (p : ℕ) → ids_at ids p ≡ later_or (with_unit k (number_among h.offset.0 0 (stay front) p)) (ids_at before p)

  pub numbered_none : (now : EntriesRaw R E) → h.offset.0 ≤ (reading h.body).place → BeginsAt reading h table now → Numbered now 0 before
  numbered_none now l b = record {
    front = [];
    walked = walked_none reading h table now l b;
    counted = sym (ap entry_count (kept_nil keep h.offset.0 0));
    few = omega arith;
    end = ap (λ (r : Reading). r.end) b.input;
    found = subst (λ (rows : List Row). AreFound h.offset.0 rows (reading now.input).place) (sym (kept_nil keep h.offset.0 0)) (found_none h.offset.0 (reading now.input).place);
    kept = λ p. kept_none k h.offset.0 p (ids_at before p) ∙ ap (λ (rows : List Row). later_or (with_unit k (number_among h.offset.0 0 rows p)) (ids_at before p)) (sym (kept_nil keep h.offset.0 0));
  }

  -- a row takes a byte at least
  further : (old new : EntriesRaw R E) (mark : Mark ReadEntry) (is : Bool) (mid after : EntryIds) (count : ℕ) → IsReading (reading old.input) → IsReading (reading new.input) → NumbersRow keep reading old new (k, record { 0 = count }) mid after is → (reading old.input).place < (reading new.input).place
  further old new mark is mid after count i j s =
      let passed : length (left (reading new.input)) + s.passes.took.count ≡ length (left (reading old.input)) = shorter s.passes.took.count (reading old.input) (reading new.input) i j s.passes.took.passes in
      let less : length (left (reading new.input)) < length (left (reading old.input)) = row_shorter reading old new s.mark s.passes in
      let place : (reading new.input).place ≡ (reading old.input).place + s.passes.took.count = ap (λ (r : Reading). r.place) s.passes.took.passes.is in
      omega arith

  -- there is room to count one entry more
  pub numbered_room : (old new : EntriesRaw R E) (is : Bool) (mid after : EntryIds) (count : ℕ) → IsReading (reading old.input) → IsReading (reading new.input) → Numbered old count mid → NumbersRow keep reading old new (k, record { 0 = count }) mid after is → count + 1 < 2 ^ 64
  numbered_room old new is mid after count i j w s =
      let more : (reading old.input).place < (reading new.input).place = further old new s.mark is mid after count i j s in
      let few : count ≤ (reading old.input).place = w.few in
      let place : (reading new.input).place ≤ (reading new.input).end = j.place in
      let small : (reading new.input).end < 2 ^ 64 = j.small in
      omega arith

  at_most_one : (b : Bool) → (if b then 1 else 0) ≤ 1
  at_most_one true = omega arith
  at_most_one false = omega arith

  -- what is told of a row that stays, and of one that is left out
  told_stays : (m : Mark ReadEntry) (c d : Bool) → d ≡ c → mark_stays d m ≡ true → (is_entry m && c) ≡ is_entry m
  told_stays (Open e) c d q h = sym q ∙ h
  told_stays Null c d q h = refl

  told_out : (m : Mark ReadEntry) (c d : Bool) → d ≡ c → mark_stays d m ≡ false → (is_entry m && c) ≡ false
  told_out (Open e) c d q h = sym q ∙ h
  told_out Null c d q h = absurd (let clash : true ≡ false = h in cc)

  kept_mark : (m : Mark ReadEntry) (place : ℕ) (id : Id) (is : Bool) (p : ℕ) → is ≡ is_entry m → (if is then begins_at place id p else None) ≡ mark_id place id m p
  kept_mark (Open e) place id is p h = ap (λ (b : Bool). if b then begins_at place id p else None) h
  kept_mark Null place id is p h = ap (λ (b : Bool). if b then begins_at place id p else None) h

  pub numbered_more : (old new : EntriesRaw R E) (is : Bool) (mid after : EntryIds) (count : ℕ) → IsReading (reading old.input) → IsReading (reading new.input) → Numbered old count mid → NumbersRow keep reading old new (k, record { 0 = count }) mid after is → Numbered new (count + (if is then 1 else 0)) after
  numbered_more old new is mid after count i j w s = by (row_stays keep h.offset.0 (entry_count w.front) one) refl
    where
      one : Row
      one = row_here reading h table old new s.mark

      place : ℕ
      place = (reading old.input).place

      more : place < (reading new.input).place
      more = further old new s.mark is mid after count i j s

      began : h.offset.0 ≤ place
      began = w.walked.began

      at : h.offset.0 + one.from ≡ place
      at = let l : h.offset.0 ≤ (reading old.input).place = w.walked.began in omega arith

      same : (entry_count w.front == 0 || keep (h.offset.0 + one.from)) ≡ (count == 0 || keep place)
      same = ap (λ (b : Bool). b || keep (h.offset.0 + one.from)) (first_alike keep h.offset.0 w.front ∙ ap (λ (n : ℕ). n == 0) (sym w.counted)) ∙ ap (λ (q : ℕ). count == 0 || keep q) at

      rest : (rows : List Row) → stay (w.front ++ one ∷ []) ≡ rows → count + (if is then 1 else 0) ≡ entry_count rows → AreFound h.offset.0 rows (reading new.input).place → ((p : ℕ) → ids_at after p ≡ later_or (with_unit k (number_among h.offset.0 0 rows p)) (ids_at before p)) → Numbered new (count + (if is then 1 else 0)) after
      rest rows q counts found kept = record {
        front = w.front ++ one ∷ [];
        walked = walked_more reading h table old new w.front s.mark i j w.walked s.passes;
        counted = counts ∙ ap entry_count (sym q);
        few =
            let few : count ≤ (reading old.input).place = w.few in
            let at_most : (if is then 1 else 0) ≤ 1 = at_most_one is in
            let on : (reading old.input).place < (reading new.input).place = more in
            omega arith;
        end = ap (λ (r : Reading). r.end) s.passes.took.passes.is ∙ w.end;
        found = subst (λ (rows : List Row). AreFound h.offset.0 rows (reading new.input).place) (sym q) found;
        kept = λ p. kept p ∙ ap (λ (rows : List Row). later_or (with_unit k (number_among h.offset.0 0 rows p)) (ids_at before p)) (sym q);
      }

      by : (b : Bool) → row_stays keep h.offset.0 (entry_count w.front) one ≡ b → Numbered new (count + (if is then 1 else 0)) after
      by true b =
          let told : is ≡ is_entry s.mark = s.told ∙ told_stays s.mark (count == 0 || keep place) (entry_count w.front == 0 || keep (h.offset.0 + one.from)) same b in
          rest (stay w.front ++ one ∷ [])
          (rows_kept_more keep h.offset.0 w.front one ∙ ap (λ (c : Bool). stay w.front ++ (if c then one ∷ [] else [])) b)
          (ap (λ (n : ℕ). n + (if is then 1 else 0)) w.counted ∙ ap (λ (c : Bool). entry_count (stay w.front) + (if c then 1 else 0)) told ∙ sym (count_one (stay w.front) one))
          (found_more h.offset.0 (stay w.front) one place (reading new.input).place w.found at began more)
          (λ p. s.kept p
          ∙ ap (λ o. later_or o (ids_at mid p)) (kept_mark s.mark place (k, record { 0 = count }) is p told)
          ∙ ap (λ (n : ℕ). later_or (mark_id place (k, record { 0 = n }) s.mark p) (ids_at mid p)) w.counted
          ∙ ap (λ o. later_or (mark_id place (k, record { 0 = entry_count (stay w.front) }) s.mark p) o) (w.kept p)
          ∙ kept_more k h.offset.0 place (stay w.front) one p (ids_at before p) at)
      by false b =
          let told : is ≡ false = s.told ∙ told_out s.mark (count == 0 || keep place) (entry_count w.front == 0 || keep (h.offset.0 + one.from)) same b in
          let none : count + 0 ≡ count = omega arith in
          rest (stay w.front)
          (rows_kept_more keep h.offset.0 w.front one ∙ ap (λ (c : Bool). stay w.front ++ (if c then one ∷ [] else [])) b ∙ append-nil (stay w.front))
          (ap (λ (c : Bool). count + (if c then 1 else 0)) told ∙ none ∙ w.counted)
          (found_later h.offset.0 (stay w.front) place (reading new.input).place w.found more)
          (λ p. s.kept p ∙ ap (λ (c : Bool). later_or (if c then begins_at place (k, record { 0 = count }) p else None) (ids_at mid p)) told ∙ w.kept p)

  pub numbered_end : (now : EntriesRaw R E) (count : ℕ) (ids : EntryIds) → IsReading (reading now.input) → Numbered now count ids → length (left (reading now.input)) ≡ 0 → NumbersRows keep reading h table k before ids count
  numbered_end now count ids i w z = record {
    rows = w.front;
    is = walked_end reading h table now w.front w.walked z;
    counted = w.counted;
    found = record {
      found = w.found.found;
      within = λ j p q.
          let b = w.found.within j p q in
          let l : p < (reading now.input).place = b.1 in
          let e : (reading now.input).place ≤ (reading now.input).end = i.place in
          let same : (reading now.input).end ≡ (reading h.body).end = w.end in
          (b.0, omega arith);
    };
    kept = w.kept;
  }
