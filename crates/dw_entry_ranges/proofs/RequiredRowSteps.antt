-- Rows of a unit that are read for required entries.
use Rattle.std.proofs.Common.{◌≡◌, ◌∙◌, sym, ap, subst, ℕ, ◌+◌, ◌-◌, ◌<◌, ◌≤◌, ◌^◌, List, [], ◌∷◌, ◌++◌, length, Bool, true, false, Result, Ok, Err, refl, arith, append_assoc, append-nil}
use Rattle.std.specs.List.{list_any}
use Rattle.dw_base.specs.Entries.{ReadEntry, Mark, Open, Null, Row}
use Rattle.dw_base.specs.declared.offsets.UnitSectionOffset.{UnitSectionOffset}
use Rattle.dw_read.specs.Reading.{Reading, IsReading, left}
use Rattle.dw_read.specs.Reasons.{◌=>>◌}
use Rattle.dw_read.specs.Rows.{BeginsAt, PassesEntry, PassesNull, ReadsRow, entry_of, row_at, row_read}
use Rattle.dw_read.specs.Values.{Value}
use Rattle.dw_read.specs.declared.entries.EntriesRaw.{EntriesRaw}
use Rattle.dw_read.specs.declared.entry.DebuggingInformationEntry.{DebuggingInformationEntry}
use Rattle.dw_read.specs.declared.error.ReadError.{ReadError}
use Rattle.dw_read.proofs.Chain.{took_of}
use Rattle.dw_read.proofs.FormLaws.{mark_law}
use Rattle.dw_read_units.proofs.RowWalk.{WalkedRows, row_here, then_none, walked_none, walked_more, walked_end, walked_refused}
use Rattle.dw_read_units.proofs.UnitLaws.{named_are, root_encoded}
use Rattle.dw_read_units.specs.Passes.{PassesRow, rows_reading}
use Rattle.dw_read_units.specs.declared.unit_ref.UnitRef.{UnitRef}
use Rattle.dw_entry_ranges.specs.Attributes.{values_in, AreInOrder}
use Rattle.dw_entry_ranges.specs.Entries.{entry_ranges}
use Rattle.dw_entry_ranges.specs.Live.{meets, IsMadeOf}
use Rattle.dw_entry_ranges.specs.Required.{place_if, ranges_in, mark_required, rows_required, MissesRow}
use Rattle.dw_entry_ranges.specs.RequiredRows.{Adds, AddsEntry, AddsRow, AddsRows, AreRowsOf, MissesMark}
use Rattle.dw_entry_ranges.specs.declared.live.LiveRange.{LiveRange}
use Rattle.dw_entry_ranges.specs.declared.live.LiveRanges.{LiveRanges}
use Rattle.dw_entry_ranges.specs.declared.range.AddressRange.{AddressRange}

-- lists that are told one after the other
pub joined : {A : Type 0} (m r s : Result (List A) ReadError) → (m =>> λ here. (r =>> λ a. s =>> λ b. Ok (a ++ b)) =>> λ more. Ok (here ++ more)) ≡ ((m =>> λ here. r =>> λ more. Ok (here ++ more)) =>> λ a. s =>> λ b. Ok (a ++ b))
joined (Err e) r s = refl
joined (Ok here) (Err e) s = refl
joined (Ok here) (Ok a) (Err e) = refl
joined (Ok here) (Ok a) (Ok b) = ap Ok (sym (append_assoc here a b))

pub one_before : {A : Type 0} (r : Result (List A) ReadError) (front : List A) (x : A) → (r =>> λ more. Ok ((front ++ x ∷ []) ++ more)) ≡ (r =>> λ more. Ok (front ++ x ∷ more))
one_before (Ok more) front x = ap Ok (append_assoc front (x ∷ []) more)
one_before (Err e) front x = refl

pub adds_none : (before : List UnitSectionOffset) → Adds (Ok []) before before
adds_none before = record { here = []; is = refl; added = sym (append-nil before) }

module _ {R E : Type 0} (reading : R → Reading) (old new : EntriesRaw R E) where
  pub null_passes : PassesNull reading old new → PassesRow reading old new Null
  null_passes e = record {
    unit = e.unit;
    took = took_of (Mark ReadEntry) (row_at reading old new) (row_read reading old new) (reading old.input) (reading new.input) Null (mark_law (reading old.input).is_big old.fields.now.encoding old.abbreviations.now) e.row;
    lists = e.lists;
  }

  module _ (before after : DebuggingInformationEntry R E) where
    pub entry_passes : (e : PassesEntry reading old new before after) → PassesRow reading old new (Open (entry_of reading e.code after))
    entry_passes e = record {
      unit = e.unit;
      took = took_of (Mark ReadEntry) (row_at reading old new) (row_read reading old new) (reading old.input) (reading new.input) (Open (entry_of reading e.code after)) (mark_law (reading old.input).is_big old.fields.now.encoding old.abbreviations.now) e.row;
      lists = e.lists;
    }

    -- a row that is read is passed, whatever it is
    pub row_passes : (is : Bool) → ReadsRow reading old new before after (Ok is) → (m : Mark ReadEntry) × PassesRow reading old new m
    row_passes true e = (Open (entry_of reading e.code after), entry_passes e)
    row_passes false e = (Null, null_passes e.0)

module _ {R E : Type 0} (reading : R → Reading) (u : UnitRef R E) where
  abbrev Rows : EntriesRaw R E → List Row → Type 0
  Rows now rows = WalkedRows reading u.unit.now.header u.unit.now.abbreviations now rows

  abbrev here_row : EntriesRaw R E → EntriesRaw R E → Mark ReadEntry → Row
  here_row old new m = row_here reading u.unit.now.header u.unit.now.abbreviations old new m

  -- ---- the required entries of rows
  rows_append : (live : List LiveRange) (xs ys : List Row) → rows_required reading u live (xs ++ ys) ≡ (rows_required reading u live xs =>> λ a. rows_required reading u live ys =>> λ b. Ok (a ++ b))
  unfolding rows_required
  rows_append live [] ys = then_none (rows_required reading u live ys)
  rows_append live (x ∷ xs) ys =
      let here = mark_required reading u live (u.unit.now.header.offset.0 + x.from) x.mark in
      ap (λ (r : Result (List UnitSectionOffset) ReadError). here =>> λ a. r =>> λ more. Ok (a ++ more)) (rows_append live xs ys) ∙ joined here (rows_required reading u live xs) (rows_required reading u live ys)

  rows_last : (live : List LiveRange) (r : Row) (b : List UnitSectionOffset) → mark_required reading u live (u.unit.now.header.offset.0 + r.from) r.mark ≡ Ok b → rows_required reading u live (r ∷ []) ≡ Ok b
  unfolding rows_required
  rows_last live r b e = ap (λ (m : Result (List UnitSectionOffset) ReadError). m =>> λ here. Ok (here ++ [])) e ∙ ap Ok (append-nil b)

  rows_more : (live : List LiveRange) (xs : List Row) (r : Row) (a b : List UnitSectionOffset) → rows_required reading u live xs ≡ Ok a → mark_required reading u live (u.unit.now.header.offset.0 + r.from) r.mark ≡ Ok b → rows_required reading u live (xs ++ r ∷ []) ≡ Ok (a ++ b)
  rows_more live xs r a b e f =
      rows_append live xs (r ∷ [])
      ∙ ap (λ (m : Result (List UnitSectionOffset) ReadError). m =>> λ x. rows_required reading u live (r ∷ []) =>> λ y. Ok (x ++ y)) e
      ∙ ap (λ (m : Result (List UnitSectionOffset) ReadError). m =>> λ y. Ok (a ++ y)) (rows_last live r b f)

  rows_none : (live : List LiveRange) → rows_required reading u live [] ≡ Ok []
  unfolding rows_required
  rows_none live = refl

  -- ---- the ranges of an entry that is read
  module _ (old new : EntriesRaw R E) (before after : DebuggingInformationEntry R E) (at : AreRowsOf reading u.unit.now.header old) (e : PassesEntry reading old new before after) where
    pub ordered : AreInOrder reading (reading u.unit.now.header.body).is_big after.attrs.items
    ordered = subst (λ (big : Bool). AreInOrder reading big after.attrs.items) at.order e.in_order

    pub own_ranges : ranges_in reading u (entry_of reading e.code after) ≡ entry_ranges reading u (reading u.unit.now.header.body).is_big (values_in reading after.attrs.items)
    own_ranges =
        ap (λ (xs : List (ℕ × Value)). entry_ranges reading u (reading u.unit.now.header.body).is_big xs)
        (sym (named_are reading u.unit.now.header.fields.encoding after.attrs.items (root_encoded old.fields.now u.unit.now.header.fields after.attrs.items at.fields e.encoded)))

    -- its place in the section
    pub own_place : u.unit.now.header.offset.0 + after.offset.0 ≡ (reading old.input).place
    own_place =
        let offset : after.offset.0 ≡ (reading old.input).place - old.start = e.offset in
        let start : old.start ≡ u.unit.now.header.offset.0 = at.start in
        let began : u.unit.now.header.offset.0 ≤ (reading old.input).place = at.began in
        omega arith

    pub place_fits : IsReading (reading old.input) → u.unit.now.header.offset.0 + after.offset.0 < 2 ^ 64
    place_fits i =
        let is : u.unit.now.header.offset.0 + after.offset.0 ≡ (reading old.input).place = own_place in
        let place : (reading old.input).place ≤ (reading old.input).end = i.place in
        let small : (reading old.input).end < 2 ^ 64 = i.small in
        omega arith

    pub adds_row : (ranges : LiveRanges) (xs ys : List UnitSectionOffset) → AddsEntry reading u ranges (reading u.unit.now.header.body).is_big after xs ys → AddsRow reading u ranges old new xs ys
    adds_row ranges xs ys a = record {
      mark = Open (entry_of reading e.code after);
      passes = entry_passes reading old new before after e;
      added = λ live made. record {
        here = place_if (list_any (meets live) a.own) (reading old.input).place;
        is = ap (λ (r : Result (List AddressRange) ReadError). r =>> λ own. Ok (place_if (list_any (meets live) own) (reading old.input).place)) (own_ranges ∙ a.are);
        added = a.added live made ∙ ap (λ (p : ℕ). xs ++ place_if (list_any (meets live) a.own) p) own_place;
      };
    }

    pub misses_mark : (y : ReadError) → entry_ranges reading u (reading u.unit.now.header.body).is_big (values_in reading after.attrs.items) ≡ Err y → MissesMark reading u old new y
    misses_mark y m = record { entry = entry_of reading e.code after; passes = entry_passes reading old new before after e; misses = own_ranges ∙ m }

  pub adds_null : (ranges : LiveRanges) (old new : EntriesRaw R E) (xs : List UnitSectionOffset) → PassesNull reading old new → AddsRow reading u ranges old new xs xs
  adds_null ranges old new xs e = record { mark = Null; passes = null_passes reading old new e; added = λ live made. adds_none xs }

  -- ---- the rows up to here
  pub record SoFar (ranges : LiveRanges) (before : List UnitSectionOffset) (now : EntriesRaw R E) (found : List UnitSectionOffset) : Type 0 where
    pub root : Row
    pub front : List Row
    pub walked : Rows now (root ∷ front)
    pub added : (live : List LiveRange) → IsMadeOf ranges live → Adds (rows_required reading u live front) before found

  pub are_rows : (now : EntriesRaw R E) (rows : List Row) → Rows now rows → AreRowsOf reading u.unit.now.header now
  are_rows now rows w = record { fields = w.fields; start = w.start; order = w.order; began = w.began }

  pub behind_root : (ranges : LiveRanges) (before : List UnitSectionOffset) (old new : EntriesRaw R E) (m : Mark ReadEntry) → IsReading (reading old.input) → IsReading (reading new.input) → u.unit.now.header.offset.0 ≤ (reading u.unit.now.header.body).place
      → BeginsAt reading u.unit.now.header u.unit.now.abbreviations old → PassesRow reading old new m → SoFar ranges before new before
  behind_root ranges before old new m i j l b p = record {
    root = here_row old new m;
    front = [];
    walked = walked_more reading u.unit.now.header u.unit.now.abbreviations old new [] m i j (walked_none reading u.unit.now.header u.unit.now.abbreviations old l b) p;
    added = λ live made. subst (λ (r : Result (List UnitSectionOffset) ReadError). Adds r before before) (sym (rows_none live)) (adds_none before);
  }

  -- where the root isn't read, no rows are
  pub root_refused : (old other : EntriesRaw R E) (y : ReadError) → u.unit.now.header.offset.0 ≤ (reading u.unit.now.header.body).place → 0 < length (left (reading u.unit.now.header.body)) → BeginsAt reading u.unit.now.header u.unit.now.abbreviations old → row_read reading old other (left (reading old.input)) ≡ Err y
      → rows_reading reading u.unit.now.header u.unit.now.abbreviations ≡ Err y
  root_refused old other y l some b r =
      let same : length (left (reading old.input)) ≡ length (left (reading u.unit.now.header.body)) = ap (λ (x : Reading). length (left x)) b.input in
      walked_refused reading u.unit.now.header u.unit.now.abbreviations old other [] y (walked_none reading u.unit.now.header u.unit.now.abbreviations old l b) (λ z. omega (arith, z, same, some)) r

  module _ (ranges : LiveRanges) (before : List UnitSectionOffset) (old new : EntriesRaw R E) (found : List UnitSectionOffset) (i : IsReading (reading old.input)) (j : IsReading (reading new.input)) (w : SoFar ranges before old found) where
    here_place : (m : Mark ReadEntry) → u.unit.now.header.offset.0 + (here_row old new m).from ≡ (reading old.input).place
    here_place m = let began : u.unit.now.header.offset.0 ≤ (reading old.input).place = w.walked.began in omega arith

    pub so_far_more : (next : List UnitSectionOffset) → AddsRow reading u ranges old new found next → SoFar ranges before new next
    so_far_more next s = record {
      root = w.root;
      front = w.front ++ here_row old new s.mark ∷ [];
      walked = walked_more reading u.unit.now.header u.unit.now.abbreviations old new (w.root ∷ w.front) s.mark i j w.walked s.passes;
      added = λ live made.
          let a = w.added live made in
          let b = s.added live made in
          record {
            here = a.here ++ b.here;
            is = rows_more live w.front (here_row old new s.mark) a.here b.here a.is (ap (λ (p : ℕ). mark_required reading u live p s.mark) (here_place s.mark) ∙ b.is);
            added = b.added ∙ ap (λ (l : List UnitSectionOffset). l ++ b.here) a.added ∙ append_assoc before a.here b.here;
          };
    }

    pub misses_row : (y : ReadError) → MissesMark reading u old new y → MissesRow reading u y
    misses_row y m =
        let next = walked_more reading u.unit.now.header u.unit.now.abbreviations old new (w.root ∷ w.front) (Open m.entry) i j w.walked m.passes in
        record {
          root = w.root;
          front = w.front;
          row = here_row old new (Open m.entry);
          back = _;
          rows = next.is ∙ one_before _ (w.root ∷ w.front) (here_row old new (Open m.entry));
          entry = m.entry;
          mark = refl;
          misses = m.misses;
        }

  pub so_far_end : (ranges : LiveRanges) (before : List UnitSectionOffset) (now : EntriesRaw R E) (found : List UnitSectionOffset) → SoFar ranges before now found → length (left (reading now.input)) ≡ 0 → AddsRows reading u ranges before found
  so_far_end ranges before now found w z = record {
    rows = w.root ∷ w.front;
    are = walked_end reading u.unit.now.header u.unit.now.abbreviations now (w.root ∷ w.front) w.walked z;
    added = w.added;
  }
