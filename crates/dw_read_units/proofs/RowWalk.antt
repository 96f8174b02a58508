-- The rows of a unit, one after the other.
use Rattle.std.proofs.Common.{◌≡◌, ◌∙◌, sym, ap, subst, ℕ, zero, suc, ◌+◌, ◌-◌, ◌^◌, ◌<◌, ◌≤◌, min, List, [], ◌∷◌, ◌++◌, length, Bool, true, false, Result, Ok, Err, refl, arith, append_assoc, append-nil, if◌then◌else◌}
use Rattle.dw_base.specs.Abbreviations.{Declaration}
use Rattle.dw_base.specs.Entries.{ReadEntry, Mark, Open, Null, Row, next_depth}
use Rattle.dw_base.specs.declared.common.Encoding.{Encoding}
use Rattle.dw_read.specs.Reading.{Reading, IsReading, left}
use Rattle.dw_read.specs.Reasons.{◌=>>◌}
use Rattle.dw_read.specs.FormReasons.{mark_read}
use Rattle.dw_read.specs.UnitHeaders.{header_size}
use Rattle.dw_read.specs.Rows.{BeginsAt, deeper, row_read}
use Rattle.dw_read.specs.declared.fields.Fields.{Fields}
use Rattle.dw_read.specs.declared.unit_header.UnitHeader.{UnitHeader}
use Rattle.dw_read.specs.declared.entries.EntriesRaw.{EntriesRaw}
use Rattle.dw_read.specs.declared.error.ReadError.{ReadError}
use Rattle.dw_read.proofs.Lefts.{shorter, same_order}
use Rattle.dw_read.proofs.Shorter.{mark_shorter}
use Rattle.dw_read_units.specs.Walks.{rows_read}
use Rattle.dw_read_units.specs.Passes.{lists_after, rows_reading, PassesRow}

pub then_none : {A : Type 0} (r : Result (List A) ReadError) → r ≡ (r =>> λ more. Ok ([] ++ more))
then_none (Ok x) = refl
then_none (Err e) = refl

pub then_one : {A : Type 0} (r : Result (List A) ReadError) (front : List A) (x : A) → ((r =>> λ more. Ok (x ∷ more)) =>> λ more. Ok (front ++ more)) ≡ (r =>> λ more. Ok ((front ++ x ∷ []) ++ more))
then_one (Ok xs) front x = ap (λ l. Ok l) (sym (append_assoc front (x ∷ []) xs))
then_one (Err e) front x = refl

pub length-zero : (bytes : List ℕ) → length bytes ≡ 0 → bytes ≡ []
length-zero [] h = refl
length-zero (b ∷ bs) h = absurd (omega arith)

deeper_next : (b : Bool) (n : ℕ) → n + 1 ≤ 2 ^ 64 - 1 → deeper b n ≡ (if b then suc n else n)
deeper_next true n h = let e : min (n + 1) (2 ^ 64 - 1) ≡ suc n = omega arith in e
deeper_next false n h = refl

lists_next : (m : Mark ReadEntry) (n : ℕ) → n + 1 ≤ 2 ^ 64 - 1 → lists_after m n ≡ next_depth m n
lists_next (Open x) n h = deeper_next x.has_children n h
lists_next Null n h = refl

deeper_bound : (b : Bool) (n : ℕ) → deeper b n ≤ n + 1
deeper_bound true n = let e : min (n + 1) (2 ^ 64 - 1) ≤ n + 1 = omega arith in e
deeper_bound false n = omega arith

lists_bound : (m : Mark ReadEntry) (n : ℕ) → lists_after m n ≤ n + 1
lists_bound (Open x) n = deeper_bound x.has_children n
lists_bound Null n = omega arith

module _ (big : Bool) (e : Encoding) (table : List Declaration) where
  rows_none : (fuel from depth : ℕ) → rows_read fuel big e table from depth [] ≡ Ok []
  unfolding rows_read
  rows_none zero from depth = refl
  rows_none (suc fuel) from depth = refl

  rows_step : (fuel from depth : ℕ) (bytes rest : List ℕ) (m : Mark ReadEntry) → length bytes ≤ suc fuel → mark_read big e table bytes ≡ Ok (m, rest)
      → rows_read (suc fuel) big e table from depth bytes ≡ (rows_read fuel big e table (from + (length bytes - length rest)) (next_depth m depth) rest =>> λ more. Ok (record { from = from; depth = depth; mark = m; to = from + (length bytes - length rest) } ∷ more))
  unfolding rows_read
  rows_step fuel from depth [] rest m l h = absurd (let s : length rest < 0 = mark_shorter big e table [] (m, rest) h in omega arith)
  rows_step fuel from depth (b ∷ bs) rest m l h =
      ap (λ r. r =>> λ x. rows_read fuel big e table (from + (length (b ∷ bs) - length x.1)) (next_depth x.0 depth) x.1 =>> λ more. Ok (record { from = from; depth = depth; mark = x.0; to = from + (length (b ∷ bs) - length x.1) } ∷ more)) h

  rows_refused : (fuel from depth : ℕ) (bytes : List ℕ) (y : ReadError) → (length bytes ≡ 0 → ⊥) → mark_read big e table bytes ≡ Err y → rows_read (suc fuel) big e table from depth bytes ≡ Err y
  unfolding rows_read
  rows_refused fuel from depth [] y n h = absurd (n refl)
  rows_refused fuel from depth (b ∷ bs) y n h =
      ap (λ r. r =>> λ x. rows_read fuel big e table (from + (length (b ∷ bs) - length x.1)) (next_depth x.0 depth) x.1 =>> λ more. Ok (record { from = from; depth = depth; mark = x.0; to = from + (length (b ∷ bs) - length x.1) } ∷ more)) h

-- a row that is read in one unit is read in the same unit
same_row : (big : Bool) (f : Fields) (t : List Declaration) (order : Bool) (g : Fields) (table : List Declaration) (bytes : List ℕ) (x : Result (Mark ReadEntry × List ℕ) ReadError) → big ≡ order → f ≡ g → t ≡ table → mark_read big f.encoding t bytes ≡ x → mark_read order g.encoding table bytes ≡ x
same_row big f t order g table bytes x p q r h =
    subst (λ (b : Bool). mark_read b g.encoding table bytes ≡ x) p
    (subst (λ (y : Fields). mark_read big y.encoding table bytes ≡ x) q
    (subst (λ (y : List Declaration). mark_read big f.encoding y bytes ≡ x) r h))

module _ {R E : Type 0} (reading : R → Reading) (h : UnitHeader R E) (table : List Declaration) where
  -- what is read from the first row on is what is read from here on, after the rows before
  pub record WalkedRows (now : EntriesRaw R E) (rows : List Row) : Type 0 where
    pub fuel : ℕ
    pub enough : length (left (reading now.input)) ≤ fuel
    pub is : rows_read (length (left (reading h.body))) (reading h.body).is_big h.fields.encoding table (header_size reading h) 0 (left (reading h.body))
        ≡ (rows_read fuel (reading h.body).is_big h.fields.encoding table ((reading now.input).place - h.offset.0) now.open_lists (left (reading now.input)) =>> λ more. Ok (rows ++ more))
    pub declarations : now.abbreviations.now ≡ table
    pub fields : now.fields.now ≡ h.fields
    pub start : now.start ≡ h.offset.0
    pub order : (reading now.input).is_big ≡ (reading h.body).is_big
    pub began : h.offset.0 ≤ (reading now.input).place
    pub deep : now.open_lists ≤ (reading now.input).place

  pub walked_none : (u : EntriesRaw R E) → h.offset.0 ≤ (reading h.body).place → BeginsAt reading h table u → WalkedRows u []
  walked_none u l b =
      let q : reading u.input ≡ reading h.body = b.input in
      let p : (reading u.input).place ≡ (reading h.body).place = ap (λ (r : Reading). r.place) q in
      let bytes = left (reading h.body) in
      record {
        fuel = length bytes;
        enough = (let e : length (left (reading u.input)) ≡ length bytes = ap (λ (r : Reading). length (left r)) q in omega arith);
        is = then_none (rows_read (length bytes) (reading h.body).is_big h.fields.encoding table (header_size reading h) 0 bytes)
            ∙ ap (λ (r : Reading). rows_read (length bytes) (reading h.body).is_big h.fields.encoding table (r.place - h.offset.0) 0 (left r) =>> λ more. Ok ([] ++ more)) (sym q)
            ∙ ap (λ (n : ℕ). rows_read (length bytes) (reading h.body).is_big h.fields.encoding table ((reading u.input).place - h.offset.0) n (left (reading u.input)) =>> λ more. Ok ([] ++ more)) (sym b.lists);
        declarations = b.declarations;
        fields = b.fields;
        start = b.start;
        order = ap (λ (r : Reading). r.is_big) q;
        began = omega arith;
        deep = (let z : u.open_lists ≡ 0 = b.lists in omega arith);
      }

  -- the row at the place as the unit has it
  pub row_at_place : (now other : EntriesRaw R E) (rows : List Row) (x : Result (Mark ReadEntry × List ℕ) ReadError) → WalkedRows now rows → row_read reading now other (left (reading now.input)) ≡ x → mark_read (reading h.body).is_big h.fields.encoding table (left (reading now.input)) ≡ x
  row_at_place now other rows x w e = same_row (reading now.input).is_big now.fields.now now.abbreviations.now (reading h.body).is_big h.fields table (left (reading now.input)) x w.order w.fields w.declarations e

  -- the row that is read at the place
  abbrev pub row_here : EntriesRaw R E → EntriesRaw R E → Mark ReadEntry → Row
  row_here old new m = record {
    from = (reading old.input).place - h.offset.0;
    depth = old.open_lists;
    mark = m;
    to = (reading old.input).place - h.offset.0 + (length (left (reading old.input)) - length (left (reading new.input)));
  }

  pub walked_more : (old new : EntriesRaw R E) (rows : List Row) (mark : Mark ReadEntry) → IsReading (reading old.input) → IsReading (reading new.input) → WalkedRows old rows → PassesRow reading old new mark → WalkedRows new (rows ++ row_here old new mark ∷ [])
  walked_more old new rows mark i j w s =
      let a = left (reading old.input) in
      let b = left (reading new.input) in
      let from = (reading old.input).place - h.offset.0 in
      let m = row_at_place old new rows (Ok (mark, b)) w s.took.value in
      let less : length b < length a = mark_shorter (reading h.body).is_big h.fields.encoding table a (mark, b) m in
      let passed : length b + s.took.count ≡ length a = shorter s.took.count (reading old.input) (reading new.input) i j s.took.passes in
      let place : (reading new.input).place ≡ (reading old.input).place + s.took.count = ap (λ (r : Reading). r.place) s.took.passes.is in
      let within : (reading old.input).place + s.took.count ≤ (reading old.input).end = s.took.passes.within in
      let small : (reading old.input).end < 2 ^ 64 = i.small in
      let began : h.offset.0 ≤ (reading old.input).place = w.began in
      let deep : old.open_lists ≤ (reading old.input).place = w.deep in
      let enough : length a ≤ w.fuel = w.enough in
      let fuel : w.fuel ≡ suc (w.fuel - 1) = omega arith in
      let one : Row = record { from = from; depth = old.open_lists; mark = mark; to = from + (length a - length b) } in
      let to : from + (length a - length b) ≡ (reading new.input).place - h.offset.0 = omega arith in
      let lists : next_depth mark old.open_lists ≡ new.open_lists = sym (s.lists ∙ lists_next mark old.open_lists (omega arith)) in
      record {
        fuel = w.fuel - 1;
        enough = omega arith;
        is = w.is
            ∙ ap (λ (n : ℕ). rows_read n (reading h.body).is_big h.fields.encoding table from old.open_lists a =>> λ more. Ok (rows ++ more)) fuel
            ∙ ap (λ r. r =>> λ more. Ok (rows ++ more)) (rows_step (reading h.body).is_big h.fields.encoding table (w.fuel - 1) from old.open_lists a b mark (omega arith) m)
            ∙ then_one (rows_read (w.fuel - 1) (reading h.body).is_big h.fields.encoding table (from + (length a - length b)) (next_depth mark old.open_lists) b) rows one
            ∙ ap (λ (n : ℕ). rows_read (w.fuel - 1) (reading h.body).is_big h.fields.encoding table n (next_depth mark old.open_lists) b =>> λ more. Ok ((rows ++ one ∷ []) ++ more)) to
            ∙ ap (λ (n : ℕ). rows_read (w.fuel - 1) (reading h.body).is_big h.fields.encoding table ((reading new.input).place - h.offset.0) n b =>> λ more. Ok ((rows ++ one ∷ []) ++ more)) lists;
        declarations = ap (λ t. t.now) s.unit.table ∙ w.declarations;
        fields = ap (λ f. f.now) s.unit.fields ∙ w.fields;
        start = s.unit.start ∙ w.start;
        order = same_order s.took.count (reading old.input) (reading new.input) s.took.passes ∙ w.order;
        began = omega arith;
        deep = (let n : lists_after mark old.open_lists ≤ old.open_lists + 1 = lists_bound mark old.open_lists in let l : new.open_lists ≡ lists_after mark old.open_lists = s.lists in omega arith);
      }

  pub walked_end : (now : EntriesRaw R E) (rows : List Row) → WalkedRows now rows → length (left (reading now.input)) ≡ 0 → rows_reading reading h table ≡ Ok rows
  walked_end now rows w z =
      let e : left (reading now.input) ≡ [] = length-zero (left (reading now.input)) z in
      w.is
      ∙ ap (λ bytes. rows_read w.fuel (reading h.body).is_big h.fields.encoding table ((reading now.input).place - h.offset.0) now.open_lists bytes =>> λ more. Ok (rows ++ more)) e
      ∙ ap (λ r. r =>> λ more. Ok (rows ++ more)) (rows_none (reading h.body).is_big h.fields.encoding table w.fuel ((reading now.input).place - h.offset.0) now.open_lists)
      ∙ ap (λ l. Ok l) (append-nil rows)

  pub walked_refused : (now other : EntriesRaw R E) (rows : List Row) (y : ReadError) → WalkedRows now rows → (length (left (reading now.input)) ≡ 0 → ⊥) → row_read reading now other (left (reading now.input)) ≡ Err y
      → rows_read (length (left (reading h.body))) (reading h.body).is_big h.fields.encoding table (header_size reading h) 0 (left (reading h.body)) ≡ Err y
  walked_refused now other rows y w n r =
      let a = left (reading now.input) in
      let enough : length a ≤ w.fuel = w.enough in
      let fuel : w.fuel ≡ suc (w.fuel - 1) = omega arith in
      w.is
      ∙ ap (λ (n : ℕ). rows_read n (reading h.body).is_big h.fields.encoding table ((reading now.input).place - h.offset.0) now.open_lists a =>> λ more. Ok (rows ++ more)) fuel
      ∙ ap (λ r. r =>> λ more. Ok (rows ++ more)) (rows_refused (reading h.body).is_big h.fields.encoding table (w.fuel - 1) ((reading now.input).place - h.offset.0) now.open_lists a y n (row_at_place now other rows (Err y) w r))

-- a row takes a byte at least
pub row_shorter : {R E : Type 0} (reading : R → Reading) (old new : EntriesRaw R E) (mark : Mark ReadEntry) → PassesRow reading old new mark → length (left (reading new.input)) < length (left (reading old.input))
row_shorter reading old new mark s = mark_shorter (reading old.input).is_big old.fields.now.encoding old.abbreviations.now (left (reading old.input)) (mark, left (reading new.input)) s.took.value
