-- A cursor over the rows of a unit, one row further.
use Rattle.std.proofs.Common.{◌≡◌, ◌∙◌, sym, ap, subst, ℕ, zero, suc, ◌+◌, ◌-◌, ◌^◌, ◌<◌, ◌≤◌, min, List, [], ◌∷◌, ◌++◌, length, map, take, All, Bool, true, false, if◌then◌else◌, Option, Some, None, Result, Ok, Err, refl, arith, append_assoc, append-nil, length-append}
use Rattle.std.proofs.lemmas.List.{length-map, map-append, take-map}
use Rattle.std.specs.Option.{unwrap_or}
use Rattle.std.specs.Prelude.{slice_get}
use Rattle.dw_base.specs.Entries.{ReadEntry, Mark, Open, Null, Row, next_depth}
use Rattle.dw_base.specs.declared.ids.UnitEntryId.{UnitEntryId}
use Rattle.dw_entry_ids.proofs.Steps.{count_one}
use Rattle.dw_entry_ids.specs.Ids.{entry_count}
use Rattle.dw_read.proofs.Lefts.{shorter}
use Rattle.dw_read.specs.Orders.{attribute_order, IsInOrder}
use Rattle.dw_read.specs.Reading.{Reading, IsReading, left}
use Rattle.dw_read.specs.Reasons.{◌=>>◌}
use Rattle.dw_read.specs.UnitHeaders.{header_size}
use Rattle.dw_read.specs.Rows.{BeginsAt, PassesEntry, deeper, entry_of, row_read}
use Rattle.dw_read.specs.declared.entries.EntriesRaw.{EntriesRaw}
use Rattle.dw_read.specs.declared.entry.DebuggingInformationEntry.{DebuggingInformationEntry}
use Rattle.dw_read.specs.declared.error.ReadError.{ReadError}
use Rattle.dw_read.specs.declared.fields.Fields.{Fields}
use Rattle.dw_read_units.proofs.RowWalk.{WalkedRows, length-zero, row_at_place, row_here, row_shorter, walked_more, walked_none}
use Rattle.dw_read_units.specs.Passes.{PassesRow, lists_after, rows_reading}
use Rattle.dw_read_units.specs.Walks.{rows_read}
use Rattle.dw_read_units.specs.declared.dwarf.Unit.{Unit as UnitFields}
use Rattle.dw_entry_ids.proofs.Passing.{entry_passes}
use Rattle.dw_entry_ids.proofs.Planning.{under_last, opened_above, opened_entry, opened_null}
use Rattle.dw_entry_ids.specs.Plans.{counted, last_at, last_or_root, opened, or_root}
use Rattle.dw_entry_ids.proofs.Until.{none_missing, read_is, until_end, until_of, until_refused, until_step, whole, whole_behind}
use Rattle.dw_entry_ids.specs.AnyUnit.{HandsOutNext, HandsOutNoMore, StandsAmong, StopsAtFault}
use Rattle.dw_entry_ids.specs.RowsUntil.{RowsUntil, rows_until, unit_rows_until, with_row}
use Rattle.dw_entry_ids.specs.UnitCursor.{HandsOutNone, HandsOutRow, StandsBetween}
use Rattle.dw_entry_ids.specs.UnitWalk.{IsTagged}
use Rattle.dw_entry_ids.specs.declared.unit_rows.UnitRows.{UnitRows}

-- the last of the open lists is closed
take_front : (xs : List ℕ) (y n : ℕ) → n ≡ length xs → take n (xs ++ y ∷ []) ≡ xs
take_front [] y zero h = refl
take_front [] y (suc n) h = absurd (omega (arith, h))
take_front (x ∷ xs) y zero h = absurd (omega (arith, h))
take_front (x ∷ xs) y (suc n) h = ap (λ (zs : List ℕ). x ∷ zs) (take_front xs y n (omega (arith, h)))

abbrev pub numbers_of : List UnitEntryId → List ℕ
numbers_of ids = map (λ (i : UnitEntryId). i.0) ids

none_taken : (n : ℕ) → take {A = ℕ} n [] ≡ []
none_taken zero = refl
none_taken (suc n) = refl

-- an entry with children is the last of those whose lists are open
pub numbers_more : (b : Bool) (xs ys : List UnitEntryId) (i : UnitEntryId) (n : ℕ) → i.0 ≡ n → ys ≡ (if b then xs ++ i ∷ [] else xs) → numbers_of ys ≡ (if b then numbers_of xs ++ n ∷ [] else numbers_of xs)
numbers_more true xs ys i n e h = ap numbers_of h ∙ map-append (λ (j : UnitEntryId). j.0) xs (i ∷ []) ∙ ap (λ (k : ℕ). numbers_of xs ++ k ∷ []) e
numbers_more false xs ys i n e h = ap numbers_of h

closed : (front : List Row) (lists n : ℕ) (xs ys : List UnitEntryId) → numbers_of xs ≡ opened front lists → n ≡ length xs → ys ≡ take (n - 1) xs → numbers_of ys ≡ opened front (lists - 1)
closed front lists n xs ys h l e =
    ap numbers_of e ∙ sym (take-map (λ (i : UnitEntryId). i.0) (n - 1) xs) ∙ ap (take (n - 1)) h ∙ go lists (l ∙ sym (length-map xs (λ (i : UnitEntryId). i.0)) ∙ ap length h)
  where
    go : (k : ℕ) → n ≡ length (opened front k) → take (n - 1) (opened front k) ≡ opened front (k - 1)
    go zero m = none_taken (n - 1)
    go (suc k) m =
        let x = or_root (last_at k 0 front) in
        let some : n ≡ length (opened front k) + 1 = m ∙ length-append (opened front k) (x ∷ []) in
        let less : k ≡ suc k - 1 = omega arith in
        take_front (opened front k) x (n - 1) (omega (arith, some)) ∙ ap (opened front) less

-- the last of the open lists is the entry's parent's
last_at_end : (xs : List UnitEntryId) (d : UnitEntryId) → d.0 ≡ 0 → (unwrap_or (slice_get xs (length xs - 1)) d).0 ≡ last_or_root (numbers_of xs)
last_at_end [] d z = z
last_at_end (x ∷ []) d z = refl
last_at_end (x ∷ y ∷ xs) d z =
    let e : length (x ∷ y ∷ xs) - 1 ≡ suc (length (y ∷ xs) - 1) = omega arith in
    ap (λ (k : ℕ). (unwrap_or (slice_get (x ∷ y ∷ xs) k) d).0) e ∙ last_at_end (y ∷ xs) d z

pub last_is : (o : Option UnitEntryId) (xs : List UnitEntryId) (d : UnitEntryId) → o ≡ slice_get xs (length xs - 1) → d.0 ≡ 0 → (unwrap_or o d).0 ≡ last_or_root (numbers_of xs)
last_is o xs d e z = ap (λ (p : Option UnitEntryId). (unwrap_or p d).0) e ∙ last_at_end xs d z

-- as deep as lists are counted
deeper_more : (b : Bool) (n : ℕ) → n + 1 < 2 ^ 64 → deeper b n ≡ (if b then suc n else n)
deeper_more true n l = let e : min (n + 1) (2 ^ 64 - 1) ≡ suc n = omega arith in e
deeper_more false n l = refl

-- a row takes a byte at least
further : {R E : Type 0} (reading : R → Reading) (now next : EntriesRaw R E) (mark : Mark ReadEntry) → IsReading (reading now.input) → IsReading (reading next.input) → PassesRow reading now next mark → (reading now.input).place < (reading next.input).place
further reading now next mark i j s =
    let passed : length (left (reading next.input)) + s.took.count ≡ length (left (reading now.input)) = shorter s.took.count (reading now.input) (reading next.input) i j s.took.passes in
    let less : length (left (reading next.input)) < length (left (reading now.input)) = row_shorter reading now next mark s in
    let place : (reading next.input).place ≡ (reading now.input).place + s.took.count = ap (λ (r : Reading). r.place) s.took.passes.is in
    omega arith

count_both : (xs ys : List Row) → entry_count (xs ++ ys) ≡ entry_count xs + entry_count ys
count_both [] ys = omega arith
count_both (x ∷ xs) ys = let h : entry_count (xs ++ ys) ≡ entry_count xs + entry_count ys = count_both xs ys in omega arith

-- how many lists are open behind a row
open_next : (m : Mark ReadEntry) (n : ℕ) → n + 1 < 2 ^ 64 → lists_after m n ≡ next_depth m n
open_next (Open e) n l = deeper_more e.has_children n l
open_next Null n l = refl

same_until : (rows more : List Row) (fault why : Option ReadError) → ◌≡◌ {A = RowsUntil} (record { rows = rows; fault = fault }) (record { rows = more; fault = why }) → (rows ≡ more) × (fault ≡ why)
same_until rows more fault why h = (ap (λ (x : RowsUntil). x.rows) h, ap (λ (x : RowsUntil). x.fault) h)

module _ {R E : Type 0} (reading : R → Reading) (u : UnitFields R E) where
  abbrev Stands : UnitRows R E → List Row → List Row → Option ReadError → Type 0
  Stands c front rest fault = StandsAmong reading u c front rest fault

  abbrev here : UnitRows R E → UnitRows R E → Mark ReadEntry → Row
  here old new m = row_here reading u.header u.abbreviations old.rows new.rows m

  -- the rows that are read from a cursor's place on
  abbrev read_there : ℕ → UnitRows R E → Result (List Row) ReadError
  read_there fuel c = rows_read fuel (reading u.header.body).is_big u.header.fields.encoding u.abbreviations ((reading c.rows.input).place - u.header.offset.0) c.rows.open_lists (left (reading c.rows.input))

  abbrev until_there : ℕ → UnitRows R E → RowsUntil
  until_there fuel c = rows_until (reading u.header.body).is_big u.header.fields.encoding u.abbreviations fuel ((reading c.rows.input).place - u.header.offset.0) c.rows.open_lists (left (reading c.rows.input))

  all_read : rows_reading reading u.header u.abbreviations ≡ whole (unit_rows_until reading u)
  all_read = read_is (reading u.header.body).is_big u.header.fields.encoding u.abbreviations (length (left (reading u.header.body))) (header_size reading u.header) 0 (left (reading u.header.body))

  there_read : (fuel : ℕ) (c : UnitRows R E) → read_there fuel c ≡ whole (until_there fuel c)
  there_read fuel c = read_is (reading u.header.body).is_big u.header.fields.encoding u.abbreviations fuel ((reading c.rows.input).place - u.header.offset.0) c.rows.open_lists (left (reading c.rows.input))

  -- where all rows can be read, a cursor among them stands between them
  pub among_of : (c : UnitRows R E) (front rest : List Row) → StandsBetween reading u c front rest → Stands c front rest None
  among_of c front rest s = record {
    all = none_missing (unit_rows_until reading u) (front ++ rest) (sym all_read ∙ s.all);
    fuel = s.fuel;
    enough = s.enough;
    reads = none_missing (until_there s.fuel c) rest (sym (there_read s.fuel c) ∙ s.reads);
    declarations = s.declarations;
    fields = s.fields;
    start = s.start;
    order = s.order;
    began = s.began;
    deep = s.deep;
    counted = s.counted;
    few = s.few;
    parents = s.parents;
    going = s.going;
  }

  pub between_of : (c : UnitRows R E) (front rest : List Row) → Stands c front rest None → StandsBetween reading u c front rest
  between_of c front rest s = record {
    all = all_read ∙ ap whole s.all;
    fuel = s.fuel;
    enough = s.enough;
    reads = there_read s.fuel c ∙ ap whole s.reads;
    declarations = s.declarations;
    fields = s.fields;
    start = s.start;
    order = s.order;
    began = s.began;
    deep = s.deep;
    counted = s.counted;
    few = s.few;
    parents = s.parents;
    going = s.going;
  }

  walked_of : (c : UnitRows R E) (front rest : List Row) (fault : Option ReadError) → Stands c front rest fault → WalkedRows reading u.header u.abbreviations c.rows front
  walked_of c front rest fault s = record {
    fuel = s.fuel;
    enough = s.enough;
    is = all_read ∙ ap whole s.all ∙ whole_behind front rest fault ∙ sym (ap (λ (r : Result (List Row) ReadError). r =>> λ more. Ok (front ++ more)) (there_read s.fuel c ∙ ap whole s.reads));
    declarations = s.declarations;
    fields = s.fields;
    start = s.start;
    order = s.order;
    began = s.began;
    deep = s.deep;
  }

  -- from the first row on
  pub stands_first : (c : UnitRows R E) → BeginsAt reading u.header u.abbreviations c.rows → c.count ≡ 0 → c.parents.items ≡ [] → c.is_ended ≡ false → u.header.offset.0 ≤ (reading u.header.body).place → Stands c [] (unit_rows_until reading u).rows (unit_rows_until reading u).fault
  stands_first c b start none going behind =
      let w = walked_none reading u.header u.abbreviations c.rows behind b in
      let bytes = left (reading u.header.body) in
      let as_many : length (left (reading c.rows.input)) ≡ length bytes = ap (λ (r : Reading). length (left r)) b.input in
      record {
        all = refl;
        fuel = length bytes;
        enough = omega (arith, as_many);
        reads =
            ap (λ (r : Reading). rows_until (reading u.header.body).is_big u.header.fields.encoding u.abbreviations (length bytes) (r.place - u.header.offset.0) c.rows.open_lists (left r)) b.input
            ∙ ap (λ (n : ℕ). rows_until (reading u.header.body).is_big u.header.fields.encoding u.abbreviations (length bytes) (header_size reading u.header) n bytes) b.lists;
        declarations = w.declarations;
        fields = w.fields;
        start = w.start;
        order = w.order;
        began = w.began;
        deep = w.deep;
        counted = start;
        few = omega (arith, start);
        parents = ap numbers_of none ∙ ap (opened []) (sym b.lists);
        going = going;
      }

  pub stands_whole : (c : UnitRows R E) (all : List Row) → Stands c [] (unit_rows_until reading u).rows (unit_rows_until reading u).fault → rows_reading reading u.header u.abbreviations ≡ Ok all → StandsBetween reading u c [] all
  stands_whole c all s are =
      let e : unit_rows_until reading u ≡ record { rows = all; fault = None } = none_missing (unit_rows_until reading u) all (sym all_read ∙ are) in
      between_of c [] all (subst (λ (x : RowsUntil). Stands c [] x.rows x.fault) e s)

  module _ (old new : UnitRows R E) (front rest : List Row) (fault : Option ReadError) (i : IsReading (reading old.rows.input)) (j : IsReading (reading new.rows.input)) (s : Stands old front rest fault) where
    stands_next : (mark : Mark ReadEntry) → PassesRow reading old.rows new.rows mark → new.count ≡ old.count + counted mark → numbers_of new.parents.items ≡ opened (front ++ here old new mark ∷ []) new.rows.open_lists → new.is_ended ≡ false → (back : List Row) × (rest ≡ here old new mark ∷ back) × Stands new (front ++ here old new mark ∷ []) back fault
    stands_next mark p count parents going =
        let row = here old new mark in
        let before_w = walked_of old front rest fault s in
        let w = walked_more reading u.header u.abbreviations old.rows new.rows front mark i j before_w p in
        let a = left (reading old.rows.input) in
        let b = left (reading new.rows.input) in
        let from : ℕ = (reading old.rows.input).place - u.header.offset.0 in
        let to : ℕ = from + (length a - length b) in
        let m = row_at_place reading u.header u.abbreviations old.rows new.rows front (Ok (mark, b)) before_w p.took.value in
        let less : length b < length a = row_shorter reading old.rows new.rows mark p in
        let passed : length b + p.took.count ≡ length a = shorter p.took.count (reading old.rows.input) (reading new.rows.input) i j p.took.passes in
        let place : (reading new.rows.input).place ≡ (reading old.rows.input).place + p.took.count = ap (λ (r : Reading). r.place) p.took.passes.is in
        let within : (reading old.rows.input).place + p.took.count ≤ (reading old.rows.input).end = p.took.passes.within in
        let small : (reading old.rows.input).end < 2 ^ 64 = i.small in
        let began : u.header.offset.0 ≤ (reading old.rows.input).place = s.began in
        let deep : old.rows.open_lists ≤ (reading old.rows.input).place = s.deep in
        let enough : length a ≤ s.fuel = s.enough in
        let fuel : s.fuel ≡ suc (s.fuel - 1) = omega (arith, less, enough) in
        let to_is : to ≡ (reading new.rows.input).place - u.header.offset.0 = omega (arith, passed, place, began, less) in
        let lists : next_depth mark old.rows.open_lists ≡ new.rows.open_lists = sym (p.lists ∙ open_next mark old.rows.open_lists (omega (arith, deep, within, small, passed, less))) in
        let big = (reading u.header.body).is_big in
        let e = u.header.fields.encoding in
        let step : until_there s.fuel old ≡ with_row row (until_there (s.fuel - 1) new) =
        ap (λ (n : ℕ). rows_until big e u.abbreviations n from old.rows.open_lists a) fuel
        ∙ until_step big e u.abbreviations (s.fuel - 1) from old.rows.open_lists a b mark m
        ∙ ap (λ (n : ℕ). with_row row (rows_until big e u.abbreviations (s.fuel - 1) n (next_depth mark old.rows.open_lists) b)) to_is
        ∙ ap (λ (n : ℕ). with_row row (rows_until big e u.abbreviations (s.fuel - 1) ((reading new.rows.input).place - u.header.offset.0) n b)) lists in
        let back = (until_there (s.fuel - 1) new).rows in
        let parts = same_until rest (row ∷ back) fault (until_there (s.fuel - 1) new).fault (sym s.reads ∙ step) in
        let one : entry_count (front ++ row ∷ []) ≡ entry_count front + counted mark = count_one front row in
        let before : old.count ≡ entry_count front = s.counted in
        let more : (reading old.rows.input).place < (reading new.rows.input).place = further reading old.rows new.rows mark i j p in
        let few : old.count ≤ (reading old.rows.input).place = s.few in
        let little : counted mark ≤ 1 = at_most mark in (
          back,
          parts.0,
          record {
            all = s.all ∙ ap (λ (rows : List Row). until_of (front ++ rows) fault) parts.0 ∙ ap (λ (rows : List Row). until_of rows fault) (sym (append_assoc front (row ∷ []) back));
            fuel = s.fuel - 1;
            enough = omega (arith, less, enough);
            reads = ap (λ (f : Option ReadError). until_of back f) (sym parts.1);
            declarations = w.declarations;
            fields = w.fields;
            start = w.start;
            order = w.order;
            began = w.began;
            deep = w.deep;
            counted = omega (arith, count, one, before);
            few = omega (arith, count, more, few, little);
            parents = parents;
            going = going;
          },
        )
      where
        at_most : (m : Mark ReadEntry) → counted m ≤ 1
        at_most (Open e) = omega arith
        at_most Null = omega arith

    -- a null entry closes a list
    stands_null : (n : ℕ) → PassesRow reading old.rows new.rows Null → new.count ≡ old.count → new.is_ended ≡ old.is_ended → n ≡ length old.parents.items → new.parents.items ≡ take (n - 1) old.parents.items → (back : List Row) × (rest ≡ here old new Null ∷ back) × Stands new (front ++ here old new Null ∷ []) back fault
    stands_null n p count ended l e =
        let row = here old new Null in
        stands_next Null p (omega (arith, count)) (closed front old.rows.open_lists n old.parents.items new.parents.items s.parents l e ∙ sym (opened_null front row (old.rows.open_lists - 1) refl) ∙ ap (opened (front ++ row ∷ [])) (sym p.lists)) (ended ∙ s.going)

    -- an entry's number has room
    pub room_for : (entry : ReadEntry) → PassesRow reading old.rows new.rows (Open entry) → old.count + 1 < 2 ^ 64
    room_for entry p =
        let more : (reading old.rows.input).place < (reading new.rows.input).place = further reading old.rows new.rows (Open entry) i j p in
        let few : old.count ≤ (reading old.rows.input).place = s.few in
        let place : (reading new.rows.input).place ≤ (reading new.rows.input).end = j.place in
        let small : (reading new.rows.input).end < 2 ^ 64 = j.small in
        omega arith

    stands_entry : (entry : ReadEntry) → PassesRow reading old.rows new.rows (Open entry) → new.count ≡ old.count + 1 → new.is_ended ≡ old.is_ended → numbers_of new.parents.items ≡ (if entry.has_children then numbers_of old.parents.items ++ old.count ∷ [] else numbers_of old.parents.items) → (back : List Row) × (rest ≡ here old new (Open entry) ∷ back) × Stands new (front ++ here old new (Open entry) ∷ []) back fault
    stands_entry entry p count ended e =
        let row = here old new (Open entry) in
        let more : (reading old.rows.input).place < (reading new.rows.input).place = further reading old.rows new.rows (Open entry) i j p in
        let place : (reading new.rows.input).place ≤ (reading new.rows.input).end = j.place in
        let small : (reading new.rows.input).end < 2 ^ 64 = j.small in
        let deep : old.rows.open_lists ≤ (reading old.rows.input).place = s.deep in
        stands_next (Open entry) p count (e ∙ go entry.has_children ∙ ap (opened (front ++ row ∷ [])) (sym (p.lists ∙ deeper_more entry.has_children old.rows.open_lists (omega arith)))) (ended ∙ s.going)
      where
        go : (b : Bool) → (if b then numbers_of old.parents.items ++ old.count ∷ [] else numbers_of old.parents.items) ≡ opened (front ++ here old new (Open entry) ∷ []) (if b then suc old.rows.open_lists else old.rows.open_lists)
        go true = ap (λ (xs : List ℕ). xs ++ old.count ∷ []) s.parents ∙ ap (λ (n : ℕ). opened front old.rows.open_lists ++ n ∷ []) s.counted ∙ sym (opened_entry front (here old new (Open entry)) entry refl)
        go false = s.parents ∙ sym (opened_above front (here old new (Open entry)))

  -- null entries were passed from there
  pub record PassedNulls (c : UnitRows R E) (front rest : List Row) (fault : Option ReadError) : Type 0 where
    pub nulls : List Row
    pub back : List Row
    pub is : rest ≡ nulls ++ back
    pub none : entry_count nulls ≡ 0
    pub stands : Stands c (front ++ nulls) back fault

  pub passed_none : (c : UnitRows R E) (front rest : List Row) (fault : Option ReadError) → Stands c front rest fault → PassedNulls c front rest fault
  passed_none c front rest fault s = record {
    nulls = [];
    back = rest;
    is = refl;
    none = refl;
    stands = subst (λ (xs : List Row). Stands c xs rest fault) (sym (append-nil front)) s;
  }

  module _ (old new : UnitRows R E) (front rest : List Row) (fault : Option ReadError) (i : IsReading (reading old.rows.input)) (j : IsReading (reading new.rows.input)) (w : PassedNulls old front rest fault) where
    pub passed_more : (n : ℕ) → PassesRow reading old.rows new.rows Null → new.count ≡ old.count → new.is_ended ≡ old.is_ended → n ≡ length old.parents.items → new.parents.items ≡ take (n - 1) old.parents.items → PassedNulls new front rest fault
    passed_more n p count ended l e =
        let row = here old new Null in
        let s = stands_null old new (front ++ w.nulls) w.back fault i j w.stands n p count ended l e in
        let one : entry_count (w.nulls ++ row ∷ []) ≡ entry_count w.nulls + 0 = count_one w.nulls row in
        let none : entry_count w.nulls ≡ 0 = w.none in
        record {
          nulls = w.nulls ++ row ∷ [];
          back = s.0;
          is = w.is ∙ ap (λ (xs : List Row). w.nulls ++ xs) s.1 ∙ sym (append_assoc w.nulls (row ∷ []) s.0);
          none = omega (arith, one, none);
          stands = subst (λ (xs : List Row). Stands new xs s.0 fault) (append_assoc front w.nulls (row ∷ [])) s.2;
        }

    pub hands_row : (blank entry : DebuggingInformationEntry R E) (id parent : ℕ) → PassesEntry reading old.rows new.rows blank entry → new.count ≡ old.count + 1 → new.is_ended ≡ old.is_ended → numbers_of new.parents.items ≡ (if entry.has_children then numbers_of old.parents.items ++ old.count ∷ [] else numbers_of old.parents.items) → id ≡ old.count → parent ≡ last_or_root (numbers_of old.parents.items) → IsTagged u entry → HandsOutNext reading u front rest fault new entry id parent
    hands_row blank entry id parent e count ended parents id_is parent_is tagged =
        let p = entry_passes reading old.rows new.rows blank entry e in
        let row = here old new (Open (entry_of reading e.code entry)) in
        let s = stands_entry old new (front ++ w.nulls) w.back fault i j w.stands (entry_of reading e.code entry) p count ended parents in
        let both : entry_count (front ++ w.nulls) ≡ entry_count front + entry_count w.nulls = count_both front w.nulls in
        let none : entry_count w.nulls ≡ 0 = w.none in
        let before : old.count ≡ entry_count (front ++ w.nulls) = w.stands.counted in
        record {
          next = record {
            nulls = w.nulls;
            row = row;
            back = s.0;
            is = w.is ∙ ap (λ (xs : List Row). w.nulls ++ xs) s.1;
            none = w.none;
            code = e.code;
            mark = refl;
            encoded = subst (λ (f : Fields). All (λ a. a.encoding ≡ f.encoding) entry.attrs.items) w.stands.fields e.encoded;
            in_order = subst (λ (b : Bool). All (λ a. IsInOrder b (attribute_order reading a)) entry.attrs.items) w.stands.order e.in_order;
            offset = e.offset ∙ ap (λ (n : ℕ). (reading old.rows.input).place - n) w.stands.start;
            depth = e.depth;
            id_is = omega (arith, id_is, both, none, before);
            parent_is = parent_is ∙ ap last_or_root w.stands.parents ∙ under_last (front ++ w.nulls) old.rows.open_lists;
          };
          tagged = tagged;
          stands = s.2;
        }

    pub can_number : (blank entry : DebuggingInformationEntry R E) → PassesEntry reading old.rows new.rows blank entry → old.count + 1 < 2 ^ 64
    can_number blank entry e = room_for old new (front ++ w.nulls) w.back fault i j w.stands (entry_of reading e.code entry) (entry_passes reading old.rows new.rows blank entry e)

  -- the row behind null entries can't be read
  pub stops_there : (c : UnitRows R E) (other : EntriesRaw R E) (front rest : List Row) (fault : Option ReadError) (y : ReadError) → PassedNulls c front rest fault → (length (left (reading c.rows.input)) ≡ 0 → ⊥) → row_read reading c.rows other (left (reading c.rows.input)) ≡ Err y → StopsAtFault reading u front rest fault y
  stops_there c other front rest fault y w more r =
      let s = w.stands in
      let a = left (reading c.rows.input) in
      let enough : length a ≤ s.fuel = s.enough in
      let fuel : s.fuel ≡ suc (s.fuel - 1) = some_fuel (length a) s.fuel more enough in
      let m = row_at_place reading u.header u.abbreviations c.rows other (front ++ w.nulls) (Err y) (walked_of c (front ++ w.nulls) w.back fault s) r in
      let refused : until_there s.fuel c ≡ record { rows = []; fault = Some y } =
      ap (λ (n : ℕ). rows_until (reading u.header.body).is_big u.header.fields.encoding u.abbreviations n ((reading c.rows.input).place - u.header.offset.0) c.rows.open_lists a) fuel
      ∙ until_refused (reading u.header.body).is_big u.header.fields.encoding u.abbreviations (s.fuel - 1) ((reading c.rows.input).place - u.header.offset.0) c.rows.open_lists a y more m in
      let parts = same_until w.back [] fault (Some y) (sym s.reads ∙ refused) in
      record {
        none = ap entry_count (w.is ∙ ap (λ (xs : List Row). w.nulls ++ xs) parts.0 ∙ append-nil w.nulls) ∙ w.none;
        why = parts.1;
      }
    where
      some_fuel : (n m : ℕ) → (n ≡ 0 → ⊥) → n ≤ m → m ≡ suc (m - 1)
      some_fuel zero m h l = absurd (h refl)
      some_fuel (suc n) m h l = omega (arith, l)

  -- none is left
  pub hands_none : (c : UnitRows R E) (front rest : List Row) (fault : Option ReadError) → PassedNulls c front rest fault → length (left (reading c.rows.input)) ≡ 0 → HandsOutNoMore reading u front rest fault c
  hands_none c front rest fault w z =
      let s = w.stands in
      let ended : until_there s.fuel c ≡ record { rows = []; fault = None } =
      ap (λ (bytes : List ℕ). rows_until (reading u.header.body).is_big u.header.fields.encoding u.abbreviations s.fuel ((reading c.rows.input).place - u.header.offset.0) c.rows.open_lists bytes) (length-zero (left (reading c.rows.input)) z)
      ∙ until_end (reading u.header.body).is_big u.header.fields.encoding u.abbreviations s.fuel ((reading c.rows.input).place - u.header.offset.0) c.rows.open_lists in
      let parts = same_until w.back [] fault None (sym s.reads ∙ ended) in
      let all : rest ≡ w.nulls = w.is ∙ ap (λ (xs : List Row). w.nulls ++ xs) parts.0 ∙ append-nil w.nulls in
      record {
        none = ap entry_count all ∙ w.none;
        whole = parts.1;
        stands = subst (λ (f : Option ReadError). Stands c (front ++ rest) [] f) parts.1 (subst (λ (xs : List Row). Stands c (front ++ xs) [] fault) (sym all) (subst (λ (xs : List Row). Stands c (front ++ w.nulls) xs fault) parts.0 s));
      }

  -- where all rows can be read, no fault is answered
  pub row_whole : (front rest : List Row) (new : UnitRows R E) (entry : DebuggingInformationEntry R E) (id parent : ℕ) → HandsOutNext reading u front rest None new entry id parent → HandsOutRow reading u front rest new entry id parent × IsTagged u entry
  row_whole front rest new entry id parent h = (
    record {
      nulls = h.next.nulls;
      row = h.next.row;
      back = h.next.back;
      is = h.next.is;
      none = h.next.none;
      code = h.next.code;
      mark = h.next.mark;
      encoded = h.next.encoded;
      in_order = h.next.in_order;
      offset = h.next.offset;
      depth = h.next.depth;
      id_is = h.next.id_is;
      parent_is = h.next.parent_is;
      stands = between_of new ((front ++ h.next.nulls) ++ h.next.row ∷ []) h.next.back h.stands;
    },
    h.tagged,
  )

  pub none_whole : (front rest : List Row) (new : UnitRows R E) → HandsOutNoMore reading u front rest None new → HandsOutNone reading u front rest new
  none_whole front rest new h = record { none = h.none; stands = between_of new (front ++ rest) [] h.stands }

  pub never_stops : {A : Type 0} (front rest : List Row) (e : ReadError) → StopsAtFault reading u front rest None e → A
  never_stops front rest e f = absurd (let clash : None ≡ Some e = f.why in cc)
