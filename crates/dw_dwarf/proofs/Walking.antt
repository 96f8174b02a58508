-- The entries of a unit, as one more is converted.
use Rattle.std.proofs.Common.{◌≡◌, ◌∙◌, sym, ap, subst, ℕ, zero, suc, ◌+◌, ◌-◌, ◌^◌, ◌<◌, ◌≤◌, List, [], ◌∷◌, ◌++◌, length, map, get_or, Bool, if◌then◌else◌, Option, Some, None, Result, Ok, ◌⊎◌, inl, inr, refl, arith, append-nil, length-append}
use Rattle.dw_base.specs.Entries.{ReadEntry, Mark, Open, Null, Row}
use Rattle.dw_base.specs.declared.address.Address.{Address}
use Rattle.dw_base.specs.declared.address.DebugInfoRef.{DebugInfoRef}
use Rattle.dw_base.specs.declared.common.Encoding.{Encoding}
use Rattle.dw_base.specs.declared.ids.FileId.{FileId}
use Rattle.dw_base.specs.declared.ids.UnitEntryId.{UnitEntryId}
use Rattle.dw_base.specs.declared.offsets.UnitSectionOffset.{UnitSectionOffset}
use Rattle.dw_entries.proofs.Filled.{filled_up-same}
use Rattle.dw_entries.specs.Entries.{EntryValue, blank_entry, entry_at, filled_up, new_root}
use Rattle.dw_entry_ids.proofs.Steps.{count_one}
use Rattle.dw_entry_ids.specs.Ids.{entry_count, is_entry}
use Rattle.dw_read.specs.Reading.{Reading, IsReading}
use Rattle.dw_read.specs.Rows.{entry_of}
use Rattle.dw_read.specs.Attributes.{attribute_of}
use Rattle.dw_read.specs.declared.entry.DebuggingInformationEntry.{DebuggingInformationEntry}
use Rattle.dw_read.specs.declared.error.ReadError.{ReadError}
use Rattle.dw_read_units.specs.declared.unit_ref.UnitRef.{UnitRef}
use Rattle.dw_sources.specs.declared.convert_error.ConvertError.{ConvertError}
use Rattle.dw_tree.specs.UnitValue.{UnitValue}
use Rattle.dw_convert.specs.Attributes.{Seen, seen}
use Rattle.dw_convert.specs.AttributeLists.{AreConverted, RefusesAttribute}
use Rattle.dw_convert.specs.Tables.{Tables}
use Rattle.dw_dwarf.proofs.Growing.{AreNumbered, AreBelow, unconverted_from, numbered_more, below_more}
use Rattle.dw_dwarf.proofs.GrowingBehind.{alone_is, blank_filled, filled_entries, filled_is, grown_in, grown_length, id_more, id_most, id_root, length-filled}
use Rattle.dw_dwarf.proofs.AttributesSeen.{attributes_seen}
use Rattle.dw_entry_ids.proofs.Planning.{parent_below, plans_more, plans_one, plans_none, plans_around, count_more}
use Rattle.dw_dwarf.specs.ConvertedEntries.{Values, seen_in, EntryConverts, EntriesConvert}
use Rattle.dw_dwarf.specs.UnitIds.{id_of, unit_entries}
use Rattle.dw_dwarf.specs.Placed.{unconverted, with_converted}
use Rattle.dw_entry_ids.specs.Plans.{Plan, parent_behind, plan_of, plans_of, plans_behind}
use Rattle.dw_dwarf.specs.ConvertSteps.{CanConvert, BecomesEntry, ConvertsEntries, RefusesEntry}
use Rattle.dw_entry_ids.specs.KeptRows.{keep_of, kept_behind, kept_rows}
use Rattle.dw_entry_ids.specs.KeptWalk.{StandsKept, HandsOutKept}
use Rattle.dw_entry_ids.specs.UnitCursor.{HandsOutNone, HandsOutRow}
use Rattle.dw_entry_ids.specs.declared.kept_rows.KeptRows.{KeptRows}
use Rattle.dw_entry_ids.proofs.KeptLaws.{kept_append, kept_nil, kept_past}
use Rattle.dw_entry_ids.proofs.KeptNext.{next_left_out, next_number, next_parent, next_stays}

-- ---- lists
same_rows : (xs ys : List Row) → ◌≡◌ {A = Result (List Row) ReadError} (Ok xs) (Ok ys) → xs ≡ ys
same_rows xs ys h = cc

-- the entry at the place behind others
at_behind : (xs : List EntryValue) (y d : EntryValue) (ys : List EntryValue) (i : ℕ) → i ≡ length xs → get_or (xs ++ y ∷ ys) i d ≡ y
at_behind [] y d ys zero h = refl
at_behind [] y d ys (suc i) h = absurd (omega (arith, h))
at_behind (x ∷ xs) y d ys zero h = absurd (omega (arith, h))
at_behind (x ∷ xs) y d ys (suc i) h = at_behind xs y d ys i (omega (arith, h))

root_filled : (n : ℕ) → 0 < n → filled_up n (new_root ∷ []) ≡ unconverted_from 0 n
root_filled zero l = absurd (omega (arith, l))
root_filled (suc n) l = ap (λ (es : List EntryValue). new_root ∷ es) (blank_filled 0 n)

-- rows without an entry hold none
no_plans : (front nulls : List Row) → entry_count nulls ≡ 0 → plans_behind front nulls ≡ []
no_plans front [] h = refl
no_plans front (r ∷ rows) h = go r.mark h (no_plans (front ++ r ∷ []) rows)
  where
    go : (m : Mark ReadEntry) → (if is_entry m then 1 else 0) + entry_count rows ≡ 0 → (entry_count rows ≡ 0 → plans_behind (front ++ r ∷ []) rows ≡ []) → plan_of (entry_count front) (parent_behind front r.depth) m ++ plans_behind (front ++ r ∷ []) rows ≡ []
    go (Open e) k rest = absurd (omega (arith, k))
    go Null k rest = rest (omega (arith, k))

plans_past : (front nulls : List Row) → entry_count nulls ≡ 0 → plans_of (front ++ nulls) ≡ plans_of front
plans_past front nulls h = plans_more front nulls ∙ ap (λ (ps : List Plan). plans_of front ++ ps) (no_plans front nulls h) ∙ append-nil (plans_of front)

-- fewer entries are left to be counted
pub one_less : {R E : Type 0} (kept : Option (List UnitSectionOffset)) (reading : R → Reading) (u : UnitRef R E) (now new : KeptRows R E) (front rest : List Row) (read : DebuggingInformationEntry R E) (id : Option UnitEntryId) (parent : ℕ) → StandsKept reading u.unit.now kept now front rest → HandsOutKept reading u.unit.now kept front rest new read id parent → IsReading (reading new.rows.rows.input) → 2 ^ 64 - new.rows.count < 2 ^ 64 - now.rows.count
one_less kept reading u now new front rest read id parent w hands i =
    let s = hands.row in
    let counted : new.rows.count ≡ entry_count ((front ++ s.nulls) ++ s.row ∷ []) = s.stands.counted in
    let one : entry_count ((front ++ s.nulls) ++ s.row ∷ []) ≡ entry_count (front ++ s.nulls) + 1 = count_one (front ++ s.nulls) s.row ∙ ap (λ (m : Mark ReadEntry). entry_count (front ++ s.nulls) + (if is_entry m then 1 else 0)) s.mark in
    let both : entry_count (front ++ s.nulls) ≡ entry_count front + entry_count s.nulls = count_more front s.nulls in
    let few : new.rows.count ≤ (reading new.rows.rows.input).place = s.stands.few in
    let place : (reading new.rows.rows.input).place ≤ (reading new.rows.rows.input).end = i.place in
    let small : (reading new.rows.rows.input).end < 2 ^ 64 = i.small in
    omega (arith, counted, one, both, s.none, w.rows.counted, few, place, small)

-- ---- the rows of a unit
module _ {R E : Type 0} (kept : Option (List UnitSectionOffset)) (reading : R → Reading) (answers : ℕ → Option Address → Type 0) (entries : ℕ → Option UnitEntryId) (infos : ℕ → Option DebugInfoRef) (u : UnitRef R E) (files : List FileId) (behind : Option ℕ) (before : UnitValue) (old : Tables) where
  -- those of rows that stay
  abbrev stay : List Row → List Row
  stay rows = kept_rows (keep_of kept) u.unit.now.header.offset.0 rows

  -- the entries of the rows up to here that are kept are converted
  pub record Converted (c : KeptRows R E) (unit : UnitValue) (t : Tables) : Type 0 where
    pub front : List Row
    pub rest : List Row
    pub stands : StandsKept reading u.unit.now kept c front rest
    pub rooted : 0 < before.reserved
    pub count : ℕ
    pub counted : count ≡ entry_count (stay front)
    pub many : count ≡ length (plans_of (stay front))
    pub numbered : AreNumbered 0 (plans_of (stay front))
    pub below : AreBelow count (plans_of (stay front))
    pub values : List Values
    pub valued : length (plans_of (stay front)) ≡ length values
    pub images : EntriesConvert reading answers entries infos u files (reading u.unit.now.header.body).is_big u.unit.now.header.fields.encoding (plans_of (stay front)) old values t
    pub grown : filled_up before.reserved unit.entries ≡ filled_entries behind (plans_of (stay front)) values ++ unconverted_from (id_of behind count) (before.reserved - id_of behind count)
    pub lengths : (count < 2 × (length unit.entries ≡ 1)) ⊎ (1 < count × (length unit.entries ≡ before.reserved))
    pub is : unit ≡ record before { entries = unit.entries; ranges = t.ranges; locations = t.locations }

  module _ (c : KeptRows R E) (unit : UnitValue) (t : Tables) (w : Converted c unit t) where
    -- no more than is reserved
    pub within : length unit.entries ≤ before.reserved
    within = go w.lengths
      where
        go : (w.count < 2 × (length unit.entries ≡ 1)) ⊎ (1 < w.count × (length unit.entries ≡ before.reserved)) → length unit.entries ≤ before.reserved
        go (inl h) = omega (arith, h.1, w.rooted)
        go (inr h) = omega (arith, h.1)

    pub some : 0 < length unit.entries
    some = go w.lengths
      where
        go : (w.count < 2 × (length unit.entries ≡ 1)) ⊎ (1 < w.count × (length unit.entries ≡ before.reserved)) → 0 < length unit.entries
        go (inl h) = omega (arith, h.1)
        go (inr h) = omega (arith, h.1, w.rooted)

module _ {R E : Type 0} (kept : Option (List UnitSectionOffset)) (reading : R → Reading) (answers : ℕ → Option Address → Type 0) (entries : ℕ → Option UnitEntryId) (infos : ℕ → Option DebugInfoRef) (u : UnitRef R E) (files : List FileId) (behind : Option ℕ) (before : UnitValue) (old : Tables) (can : CanConvert behind (keep_of kept) reading u before) where
  abbrev staying : List Row → List Row
  staying rows = kept_rows (keep_of kept) u.unit.now.header.offset.0 rows

  abbrev order_here : Bool
  order_here = (reading u.unit.now.header.body).is_big

  abbrev encoding_here : Encoding
  encoding_here = u.unit.now.header.fields.encoding

  abbrev ConvertedHere : KeptRows R E → UnitValue → Tables → Type 0
  ConvertedHere c unit t = Converted kept reading answers entries infos u files behind before old c unit t

  nothing_filled : filled_entries behind [] [] ++ unconverted_from (id_of behind 0) (before.reserved - id_of behind 0) ≡ unconverted_from (id_of behind 0) (before.reserved - id_of behind 0)
  nothing_filled = go behind
    where
      go : (b : Option ℕ) → filled_entries b [] [] ++ unconverted_from (id_of behind 0) (before.reserved - id_of behind 0) ≡ unconverted_from (id_of behind 0) (before.reserved - id_of behind 0)
      go None = refl
      go (Some first) = refl

  none_yet : plans_of (staying []) ≡ []
  none_yet = ap plans_of (kept_nil (keep_of kept) u.unit.now.header.offset.0 0) ∙ plans_none

  pub converted_none : (c : KeptRows R E) (unit : UnitValue) → StandsKept reading u.unit.now kept c [] can.rows → 0 < before.reserved → unit ≡ before → old.ranges ≡ before.ranges → old.locations ≡ before.locations → ConvertedHere c unit old
  converted_none c unit stands some same ranges locations = record {
    front = [];
    rest = can.rows;
    stands = stands;
    rooted = some;
    count = 0;
    counted = sym (ap entry_count (kept_nil (keep_of kept) u.unit.now.header.offset.0 0));
    many = sym (ap (λ (ps : List Plan). length ps) none_yet);
    numbered = subst (AreNumbered 0) (sym none_yet) tt;
    below = subst (AreBelow 0) (sym none_yet) tt;
    values = [];
    valued = ap (λ (ps : List Plan). length ps) none_yet;
    images = subst (λ (ps : List Plan). EntriesConvert reading answers entries infos u files order_here encoding_here ps old [] old) (sym none_yet) refl;
    grown =
        ap (filled_up before.reserved) (ap (λ (x : UnitValue). x.entries) same ∙ can.entries)
        ∙ root_filled before.reserved some
        ∙ ap (unconverted_from 0) (let e : before.reserved ≡ before.reserved - 0 = omega arith in e)
        ∙ sym (nothing_filled ∙ ap (λ (j : ℕ). unconverted_from j (before.reserved - j)) (id_root behind))
        ∙ ap (λ (ps : List Plan). filled_entries behind ps [] ++ unconverted_from (id_of behind 0) (before.reserved - id_of behind 0)) (sym none_yet);
    lengths = inl (omega arith, ap (λ (x : UnitValue). length x.entries) same ∙ ap (λ (es : List EntryValue). length es) can.entries);
    is = same
        ∙ ap (λ (es : List EntryValue). record before { entries = es }) (sym (ap (λ (x : UnitValue). x.entries) same))
        ∙ ap (λ rs. record before { entries = unit.entries; ranges = rs }) (sym ranges)
        ∙ ap (λ ls. record before { entries = unit.entries; ranges = old.ranges; locations = ls }) (sym locations);
  }

  images_more : (ps : List Plan) (t : Tables) (vs : List Values) (m : Tables) (p : Plan) (v : Values) (end : Tables) → EntriesConvert reading answers entries infos u files order_here encoding_here ps t vs m → EntryConverts reading answers entries infos u files order_here encoding_here p m v end → EntriesConvert reading answers entries infos u files order_here encoding_here (ps ++ p ∷ []) t (vs ++ v ∷ []) end
  images_more [] t [] m p v end h c = (end, subst (λ (x : Tables). EntryConverts reading answers entries infos u files order_here encoding_here p x v end) h c, refl)
  images_more [] t (x ∷ vs) m p v end h c = absurd h
  images_more (q ∷ ps) t [] m p v end h c = absurd h
  images_more (q ∷ ps) t (x ∷ vs) m p v end h c = (h.0, h.1, images_more ps h.0 vs m p v end h.2 c)

  -- the next entry, behind null entries
  module _ (now new : KeptRows R E) (unit : UnitValue) (t : Tables) (read : DebuggingInformationEntry R E) (own : UnitEntryId) (parent : ℕ) (w : ConvertedHere now unit t) (hands : HandsOutKept reading u.unit.now kept w.front w.rest new read (Some own) parent) where
    -- its id, and its parent's
    abbrev id : ℕ
    id = id_of behind own.0

    abbrev above : ℕ
    above = id_of behind parent

    abbrev s : HandsOutRow reading u.unit.now w.front w.rest new.rows read hands.number hands.above
    s = hands.row

    abbrev entry : ReadEntry
    entry = entry_of reading s.code read

    abbrev front_next : List Row
    front_next = (w.front ++ s.nulls) ++ s.row ∷ []

    -- the rows that stay, up to the entry's and behind it
    abbrev front_kept : List Row
    front_kept = staying w.front ++ s.nulls

    abbrev next_kept : List Row
    next_kept = front_kept ++ s.row ∷ []

    abbrev back_kept : List Row
    back_kept = kept_behind (keep_of kept) u.unit.now.header.offset.0 (entry_count front_next + 0) s.back

    next_is : staying front_next ≡ next_kept
    next_is = next_stays reading u.unit.now kept w.front w.rest new read (Some own) parent hands own refl

    count_is : own.0 ≡ w.count
    count_is = next_number reading u.unit.now kept w.front w.rest new read (Some own) parent hands own refl ∙ sym w.counted

    before_row : entry_count front_kept ≡ w.count
    before_row =
        let both : entry_count front_kept ≡ entry_count (staying w.front) + entry_count s.nulls = count_more (staying w.front) s.nulls in
        omega (arith, both, s.none, w.counted)

    one_more : entry_count next_kept ≡ w.count + 1
    one_more =
        let one : entry_count next_kept ≡ entry_count front_kept + 1 = count_one front_kept s.row ∙ ap (λ (m : Mark ReadEntry). entry_count front_kept + (if is_entry m then 1 else 0)) s.mark in
        omega (arith, one, before_row)

    all_there : can.rows ≡ front_next ++ s.back
    all_there = same_rows can.rows (front_next ++ s.back) (sym can.are ∙ s.stands.all)

    all_rows : staying can.rows ≡ next_kept ++ back_kept
    all_rows = ap staying all_there ∙ kept_append (keep_of kept) u.unit.now.header.offset.0 0 front_next s.back ∙ ap (λ (rows : List Row). rows ++ back_kept) next_is

    above_is : parent ≡ parent_behind front_kept s.row.depth
    above_is = next_parent reading u.unit.now kept w.front w.rest new read (Some own) parent hands own can.rows refl can.closed all_there

    has_more : w.count < entry_count (staying can.rows)
    has_more =
        let all : entry_count (staying can.rows) ≡ entry_count next_kept + entry_count back_kept = ap entry_count all_rows ∙ count_more next_kept back_kept in
        omega (arith, all, one_more)

    has_room : id_of behind w.count < before.reserved
    has_room =
        let less : id_of behind w.count < id_of behind (entry_count (staying can.rows)) = id_more behind w.count (entry_count (staying can.rows)) can.free has_more in
        omega (arith, less, can.reserved)

    fits : id_of behind 1 ≤ before.reserved
    fits =
        let most : id_of behind 1 ≤ id_of behind (entry_count (staying can.rows)) = id_most behind 1 (entry_count (staying can.rows)) can.free (omega (arith, has_more)) in
        omega (arith, most, can.reserved)

    reserved_is : unit.reserved ≡ before.reserved
    reserved_is = ap (λ (x : UnitValue). x.reserved) w.is

    -- its id is reserved
    pub id_in : id < unit.reserved
    id_in =
        let here : id ≡ id_of behind w.count = ap (id_of behind) count_is in
        omega (arith, has_room, here, reserved_is)

    pub not_yet : entry_at (filled_up unit.reserved unit.entries) id ≡ unconverted id
    not_yet =
        let plans : List Plan = plans_of (staying w.front) in
        let at : ℕ = id_of behind w.count in
        let rest : List EntryValue = unconverted_from (suc at) (before.reserved - (at + 1)) in
        let there : before.reserved - at ≡ suc (before.reserved - (at + 1)) = omega (arith, has_room) in
        let here : entry_at (filled_up unit.reserved unit.entries) at ≡ unconverted at =
        ap (λ (n : ℕ). entry_at (filled_up n unit.entries) at) reserved_is
        ∙ ap (λ (es : List EntryValue). entry_at es at) (w.grown ∙ ap (λ (n : ℕ). filled_entries behind plans w.values ++ unconverted_from at n) there)
        ∙ at_behind (filled_entries behind plans w.values) (unconverted at) (blank_entry 0) rest at (ap (id_of behind) w.many ∙ sym (length-filled behind plans w.values can.free w.valued)) in
        subst (λ (n : ℕ). entry_at (filled_up unit.reserved unit.entries) (id_of behind n) ≡ unconverted (id_of behind n)) (sym count_is) here

    seen_as : map (seen reading) read.attrs.items ≡ map (seen_in order_here encoding_here) (map (attribute_of reading) read.attrs.items)
    seen_as = attributes_seen reading order_here encoding_here read.attrs.items s.encoded s.in_order

    -- an attribute of the entry becomes nothing
    pub converted_refused : (y : ConvertError) → RefusesAttribute reading answers entries infos u files (map (seen reading) read.attrs.items) t y → RefusesEntry (keep_of kept) reading answers entries infos u files old y
    converted_refused y r = record {
      rows = can.rows;
      are = can.are;
      front = plans_of front_kept;
      plan = record { number = entry_count front_kept; parent = parent_behind front_kept s.row.depth; entry = entry };
      back = plans_behind next_kept back_kept;
      is = ap plans_of all_rows ∙ plans_around front_kept back_kept s.row entry s.mark;
      values = w.values;
      tables = t;
      before = subst (λ (ps : List Plan). EntriesConvert reading answers entries infos u files order_here encoding_here ps old w.values t) (sym (plans_past (staying w.front) s.nulls s.none)) w.images;
      refused = subst (λ (xs : List Seen). RefusesAttribute reading answers entries infos u files xs t y) seen_as r;
    }

    abbrev plan : Plan
    plan = record { number = w.count; parent = parent; entry = entry }

    plan_below : (parent ≡ 0) ⊎ (parent < w.count)
    plan_below =
        let q : ℕ = parent_behind front_kept s.row.depth in
        subst (λ (p : ℕ). (p ≡ 0) ⊎ (p < w.count)) (sym above_is) (subst (λ (n : ℕ). (q ≡ 0) ⊎ (q < n)) before_row (parent_below front_kept s.row.depth))

    pub parent_in : above < unit.reserved
    parent_in = go plan_below
      where
        go : (parent ≡ 0) ⊎ (parent < w.count) → above < unit.reserved
        go (inl z) =
            let root : above ≡ 0 = ap (id_of behind) z ∙ id_root behind in
            omega (arith, root, has_room, reserved_is)
        go (inr l) =
            let less : above < id_of behind w.count = id_more behind parent w.count can.free l in
            omega (arith, less, has_room, reserved_is)

    -- so ids are numbers of 64 bits
    pub ids_fit : before.reserved < 2 ^ 64 → (id ≤ 2 ^ 64 - 1) × (above ≤ 2 ^ 64 - 1)
    ids_fit fit = (omega (arith, fit, id_in, reserved_is), omega (arith, fit, parent_in, reserved_is))

    plans_next : plans_of (staying front_next) ≡ plans_of (staying w.front) ++ plan ∷ []
    plans_next =
        ap plans_of next_is
        ∙ plans_one front_kept s.row
        ∙ ap (λ (m : Mark ReadEntry). plans_of front_kept ++ plan_of (entry_count front_kept) (parent_behind front_kept s.row.depth) m) s.mark
        ∙ ap (λ (ps : List Plan). ps ++ record { number = entry_count front_kept; parent = parent_behind front_kept s.row.depth; entry = entry } ∷ []) (plans_past (staying w.front) s.nulls s.none)
        ∙ ap (λ (n : ℕ). plans_of (staying w.front) ++ record { number = n; parent = parent_behind front_kept s.row.depth; entry = entry } ∷ []) before_row
        ∙ ap (λ (q : ℕ). plans_of (staying w.front) ++ record { number = w.count; parent = q; entry = entry } ∷ []) (sym above_is)

    -- an entry is converted
    pub converted_more : (after : UnitValue) (end : Tables) → BecomesEntry reading answers entries infos u files (map (seen reading) read.attrs.items) (record { number = id; parent = above; entry = entry }) unit t after end → ConvertedHere new after end
    converted_more after end begun =
        let b = subst (λ (n : ℕ). BecomesEntry reading answers entries infos u files (map (seen reading) read.attrs.items) (record { number = id_of behind n; parent = above; entry = entry }) unit t after end) count_is begun in
        let placed : Plan = record { number = id_of behind w.count; parent = above; entry = entry } in
        let n : ℕ = before.reserved in
        let plans : List Plan = plans_of (staying w.front) in
        let many : w.count ≡ length plans = w.many in
        let longer : length (plans ++ plan ∷ []) ≡ length plans + 1 = length-append plans (plan ∷ []) in
        let valued : length plans ≡ length w.values = w.valued in
        let more_values : length (w.values ++ b.values ∷ []) ≡ length w.values + 1 = length-append w.values (b.values ∷ []) in
        let as_many : length (plans ++ plan ∷ []) ≡ length (w.values ++ b.values ∷ []) = omega (arith, longer, valued, more_values) in
        let counts : w.count + 1 ≡ length (plans ++ plan ∷ []) = omega (arith, longer, many) in
        let entries_are : after.entries ≡ with_converted n placed b.values unit.entries = ap (λ (x : UnitValue). x.entries) b.is ∙ ap (λ (m : ℕ). with_converted m placed b.values unit.entries) reserved_is in
        let inside : length unit.entries ≤ n = within kept reading answers entries infos u files behind before old now unit t w in
        record {
          front = front_next;
          rest = s.back;
          stands = hands.stands;
          rooted = w.rooted;
          count = w.count + 1;
          counted = sym (ap entry_count next_is ∙ one_more);
          many = counts ∙ ap (λ (ps : List Plan). length ps) (sym plans_next);
          numbered = subst (AreNumbered 0) (sym plans_next) (numbered_more 0 plans plan w.numbered (omega (arith, many)));
          below = subst (AreBelow (w.count + 1)) (sym plans_next) (below_more w.count plans plan w.below plan_below);
          values = w.values ++ b.values ∷ [];
          valued = ap (λ (ps : List Plan). length ps) plans_next ∙ as_many;
          images = subst (λ (ps : List Plan). EntriesConvert reading answers entries infos u files order_here encoding_here ps old (w.values ++ b.values ∷ []) end) (sym plans_next)
              (images_more plans old w.values t plan b.values end w.images (subst (λ (xs : List Seen). AreConverted reading answers entries infos u files xs t b.values end) seen_as b.images));
          grown =
              ap (filled_up n) entries_are
              ∙ grown_in behind n parent entry b.values unit.entries can.free w.count plans w.values w.many w.valued w.numbered w.below plan_below fits has_room (some kept reading answers entries infos u files behind before old now unit t w) inside w.grown
              ∙ ap (λ (ps : List Plan). filled_entries behind ps (w.values ++ b.values ∷ []) ++ unconverted_from (id_of behind (w.count + 1)) (n - id_of behind (w.count + 1))) (sym plans_next);
          lengths = subst (λ (es : List EntryValue). (w.count + 1 < 2 × (length es ≡ 1)) ⊎ (1 < w.count + 1 × (length es ≡ n))) (sym entries_are) (grown_length behind n above entry b.values unit.entries can.free w.count inside w.lengths);
          is = b.is
              ∙ ap (λ (x : UnitValue). record x { entries = with_converted unit.reserved placed b.values unit.entries; ranges = end.ranges; locations = end.locations }) w.is
              ∙ ap (λ (es : List EntryValue). record before { entries = es; ranges = end.ranges; locations = end.locations }) (sym (ap (λ (x : UnitValue). x.entries) b.is));
        }

  -- one that is left out is passed
  pub converted_past : (now new : KeptRows R E) (unit : UnitValue) (t : Tables) (read : DebuggingInformationEntry R E) (parent : ℕ) (w : ConvertedHere now unit t) → HandsOutKept reading u.unit.now kept w.front w.rest new read None parent → ConvertedHere new unit t
  converted_past now new unit t read parent w hands =
      let s = hands.row in
      let front_next : List Row = (w.front ++ s.nulls) ++ s.row ∷ [] in
      let stays : staying front_next ≡ staying w.front ++ s.nulls = next_left_out reading u.unit.now kept w.front w.rest new read None parent hands refl in
      let both : entry_count (staying w.front ++ s.nulls) ≡ entry_count (staying w.front) + entry_count s.nulls = count_more (staying w.front) s.nulls in
      let none : entry_count s.nulls ≡ 0 = s.none in
      let plans : plans_of (staying w.front) ≡ plans_of (staying front_next) = sym (ap plans_of stays ∙ plans_past (staying w.front) s.nulls s.none) in
      record {
        front = front_next;
        rest = s.back;
        stands = hands.stands;
        rooted = w.rooted;
        count = w.count;
        counted = w.counted ∙ (let z : entry_count (staying w.front) ≡ entry_count (staying w.front ++ s.nulls) = omega (arith, both, none) in z) ∙ sym (ap entry_count stays);
        many = w.many ∙ ap (λ (ps : List Plan). length ps) plans;
        numbered = subst (AreNumbered 0) plans w.numbered;
        below = subst (AreBelow w.count) plans w.below;
        values = w.values;
        valued = sym (ap (λ (ps : List Plan). length ps) plans) ∙ w.valued;
        images = subst (λ (ps : List Plan). EntriesConvert reading answers entries infos u files order_here encoding_here ps old w.values t) plans w.images;
        grown = w.grown ∙ ap (λ (ps : List Plan). filled_entries behind ps w.values ++ unconverted_from (id_of behind w.count) (before.reserved - id_of behind w.count)) plans;
        lengths = w.lengths;
        is = w.is;
      }

  -- all entries are converted
  pub converted_end : (now new : KeptRows R E) (unit : UnitValue) (t : Tables) (w : ConvertedHere now unit t) → HandsOutNone reading u.unit.now w.front w.rest new.rows → ConvertsEntries (keep_of kept) reading answers entries infos u files behind before old unit t
  converted_end now new unit t w h =
      let stays : staying (w.front ++ w.rest) ≡ staying w.front ++ w.rest = kept_past (keep_of kept) u.unit.now.header.offset.0 w.front w.rest h.none in
      let past : plans_of (staying (w.front ++ w.rest)) ≡ plans_of (staying w.front) = ap plans_of stays ∙ plans_past (staying w.front) w.rest h.none in
      let all : w.front ++ w.rest ≡ can.rows = same_rows (w.front ++ w.rest) can.rows (sym w.stands.rows.all ∙ can.are) in
      let both : entry_count (staying w.front ++ w.rest) ≡ entry_count (staying w.front) + entry_count w.rest = count_more (staying w.front) w.rest in
      let counts : w.count ≡ entry_count (staying can.rows) = (let z : w.count ≡ entry_count (staying w.front ++ w.rest) = omega (arith, both, h.none, w.counted) in z) ∙ sym (ap entry_count stays) ∙ ap (λ (rows : List Row). entry_count (staying rows)) all in
      let reserved : before.reserved ≡ id_of behind w.count = can.reserved ∙ ap (id_of behind) (sym counts) in
      let plans : List Plan = plans_of (staying w.front) in
      let none : before.reserved - id_of behind w.count ≡ 0 = omega (arith, reserved) in
      let entries_are : unit.entries ≡ unit_entries behind plans w.values = go w.lengths reserved none in
      record {
        rows = w.front ++ w.rest;
        are = w.stands.rows.all;
        values = w.values;
        images = subst (λ (ps : List Plan). EntriesConvert reading answers entries infos u files order_here encoding_here ps old w.values t) (sym past) w.images;
        is = w.is ∙ ap (λ (es : List EntryValue). record before { entries = es; ranges = t.ranges; locations = t.locations }) (entries_are ∙ ap (λ (ps : List Plan). unit_entries behind ps w.values) (sym past));
      }
    where
      plans_here : List Plan
      plans_here = plans_of (staying w.front)

      one_or_more : (n : ℕ) → w.count ≡ n → before.reserved ≡ id_of behind w.count → 1 ≤ w.count
      one_or_more zero e r =
          let root : before.reserved ≡ 0 = r ∙ ap (id_of behind) e ∙ id_root behind in
          absurd (omega (arith, root, w.rooted))
      one_or_more (suc n) e r = omega (arith, e)

      go : (w.count < 2 × (length unit.entries ≡ 1)) ⊎ (1 < w.count × (length unit.entries ≡ before.reserved)) → before.reserved ≡ id_of behind w.count → before.reserved - id_of behind w.count ≡ 0 → unit.entries ≡ unit_entries behind plans_here w.values
      go (inl k) r none =
          let one : 1 ≤ w.count = one_or_more w.count refl r in
          alone_is behind before.reserved plans_here w.values unit.entries (unconverted_from (id_of behind w.count) (before.reserved - id_of behind w.count)) w.valued (omega (arith, k.0, one, w.many)) k.1 w.rooted w.grown
      go (inr k) r none =
          let whole : before.reserved ≡ length unit.entries = sym k.1 in
          sym (filled_up-same before.reserved unit.entries whole) ∙ w.grown ∙ ap (λ (n : ℕ). filled_entries behind plans_here w.values ++ unconverted_from (id_of behind w.count) n) none ∙ append-nil (filled_entries behind plans_here w.values) ∙ filled_is behind plans_here w.values w.valued (omega (arith, k.0, w.many))
