-- A unit that a filter hands out, whose root is read.
use Rattle.std.proofs.Common.{◌≡◌, ◌∙◌, sym, ap, subst, ℕ, zero, suc, ◌+◌, ◌-◌, ◌<◌, ◌≤◌, List, [], ◌∷◌, ◌++◌, length, get_or, Bool, true, false, if◌then◌else◌, Option, Some, None, Ok, ◌⊎◌, ⊎_elim, refl, arith, length-append}
use Rattle.dw_base.specs.Entries.{ReadEntry, Mark, Open, Row, mark_at, next_depth}
use Rattle.dw_entry_ids.proofs.Until.{until_step}
use Rattle.dw_entry_ids.specs.AnyUnit.{HandsOutNext, HandsOutNoMore, StandsAmong, StopsAtFault}
use Rattle.dw_entry_ids.specs.Ids.{entry_count, is_entry}
use Rattle.dw_entry_ids.specs.RowsUntil.{RowsUntil, rows_until, unit_rows_until}
use Rattle.dw_entry_ids.specs.declared.unit_rows.UnitRows.{UnitRows}
use Rattle.dw_read.proofs.FormLaws.{mark_law}
use Rattle.dw_read.proofs.Laws.{read_is}
use Rattle.dw_read.proofs.Shorter.{mark_shorter}
use Rattle.dw_read.specs.FormReasons.{mark_read}
use Rattle.dw_read.specs.Reading.{Reading, left}
use Rattle.dw_read.specs.UnitHeaders.{header_size}
use Rattle.dw_read.specs.declared.entry.DebuggingInformationEntry.{DebuggingInformationEntry}
use Rattle.dw_read.specs.declared.error.ReadError.{ReadError}
use Rattle.dw_read.specs.declared.error.ReadError.TheVariants as read
use Rattle.dw_read_units.specs.UnitReads.{IsUnit}
use Rattle.dw_read_units.specs.declared.dwarf.Dwarf.{Dwarf}
use Rattle.dw_read_units.specs.declared.dwarf.Unit.{Unit as UnitFields}
use Rattle.dw_read_units.specs.declared.unit_ref.UnitRef.{UnitRef}
use Rattle.dw_filter.proofs.FilterSteps.{spots_row}
use Rattle.dw_filter.specs.FilterEntries.{Spot, spots_in}
use Rattle.dw_filter.specs.FilterSections.{IsNextUnit, with_skeleton}
use Rattle.dw_filter.specs.FilterUnits.{HasRoot, StandsBehindRoot}
use Rattle.dw_filter.specs.declared.unit_section.FilterUnitSection.{FilterUnitSection}

-- the one behind others
pub last_of : {A : Type 0} (xs : List A) (y d : A) (i : ℕ) → i ≡ length xs → get_or (xs ++ y ∷ []) i d ≡ y
last_of [] y d zero h = refl
last_of [] y d (suc i) h = absurd (omega (arith, h))
last_of (x ∷ xs) y d zero h = absurd (omega (arith, h))
last_of (x ∷ xs) y d (suc i) h = last_of xs y d i (omega (arith, h))

-- it is the last
pub last_is : {A : Type 0} (all xs : List A) (y x : A) (n : ℕ) → all ≡ xs ++ y ∷ [] → n ≡ length all → x ≡ get_or all (n - 1) x → x ≡ y
last_is {A} all xs y x n e l h =
    let longer : length all ≡ length xs + 1 = ap length e ∙ length-append xs (y ∷ []) in
    h ∙ ap (λ (zs : List A). get_or zs (n - 1) x) e ∙ last_of xs y x (n - 1) (omega (arith, longer, l))

pub one_entry : (b : Bool) (n : ℕ) → b ≡ true → (if b then 1 else 0) + n ≡ n + 1
one_entry true n e = omega arith
one_entry false n e = absurd (cc)

same_rows : (x y : Row) (xs ys : List Row) → x ∷ xs ≡ y ∷ ys → (x ≡ y) × (xs ≡ ys)
same_rows x y xs ys h = (cc, cc)

-- nothing stands before an entry that comes first
first_entry : (root row : Row) (rest nulls back : List Row) → is_entry root.mark ≡ true → root ∷ rest ≡ nulls ++ row ∷ back → entry_count nulls ≡ 0 → (nulls ≡ []) × (root ≡ row) × (rest ≡ back)
first_entry root row rest [] back t h z = let p = same_rows root row rest back h in (refl, p.0, p.1)
first_entry root row rest (n ∷ nulls) back t h z =
    let p = same_rows root n rest (nulls ++ row ∷ back) h in
    let some : entry_count (n ∷ nulls) ≡ entry_count nulls + 1 = one_entry (is_entry n.mark) (entry_count nulls) (ap (λ (r : Row). is_entry r.mark) (sym p.0) ∙ t) in
    absurd (omega (arith, some, z))

module _ {R E : Type 0} (reading : R → Reading) where
  module _ (u : UnitFields R E) (root : Row) (rest : List Row) (fault : Option ReadError) (w : HasRoot reading u root rest fault) where
    pub stands_first : (rows : UnitRows R E) → StandsAmong reading u rows [] (unit_rows_until reading u).rows (unit_rows_until reading u).fault → StandsAmong reading u rows [] (root ∷ rest) fault
    stands_first rows s = subst (λ (x : RowsUntil). StandsAmong reading u rows [] x.rows x.fault) w.rows s

    one_there : entry_count (root ∷ rest) ≡ 0 → ⊥
    one_there z = let one : entry_count (root ∷ rest) ≡ entry_count rest + 1 = one_entry (is_entry root.mark) (entry_count rest) w.is_root in omega (arith, one, z)

    pub never_none : {A : Type 0} (rows : UnitRows R E) → HandsOutNoMore reading u [] (root ∷ rest) fault rows → A
    never_none rows h = absurd (one_there h.none)

    pub for_memory : (e : ReadError) → (e ≡ read.NoMemory) ⊎ StopsAtFault reading u [] (root ∷ rest) fault e → e ≡ read.NoMemory
    for_memory e h = ⊎_elim (λ n. n) (λ f. absurd (one_there f.none)) h

    pub root_first : (rows : UnitRows R E) (entry : DebuggingInformationEntry R E) (id parent : ℕ) (spots : List Spot) → HandsOutNext reading u [] (root ∷ rest) fault rows entry id parent → spots ≡ (entry.offset, entry.tag) ∷ [] → StandsBehindRoot reading u root rest fault rows spots
    root_first rows entry id parent spots h e =
        let f = first_entry root h.next.row rest h.next.nulls h.next.back w.is_root h.next.is h.next.none in
        record {
          stands = subst (λ (xs : List Row). StandsAmong reading u rows (root ∷ []) xs fault) (sym f.2)
              (subst (λ (r : Row). StandsAmong reading u rows (r ∷ []) h.next.back fault) (sym f.1)
              (subst (λ (xs : List Row). StandsAmong reading u rows (([] ++ xs) ++ h.next.row ∷ []) h.next.back fault) f.0 h.stands));
          seen = e ∙ sym (spots_row reading h.next.row h.next.code entry h.next.mark h.next.offset) ∙ ap (λ (r : Row). spots_in (r ∷ [])) (sym f.1);
        }

  -- a unit with its root and what follows it
  pub record Rooted (u : UnitFields R E) : Type 0 where
    pub root : Row
    pub rest : List Row
    pub fault : Option ReadError
    pub has : HasRoot reading u root rest fault

  rooted_read : (d : Dwarf R E) (u : UnitFields R E) → IsUnit reading d u.header u → u.header.offset.0 ≤ (reading u.header.body).place → Rooted u
  rooted_read d u i placed =
      let bytes = left (reading u.header.body) in
      let big = (reading u.header.body).is_big in
      let e = u.header.fields.encoding in
      let from = header_size reading u.header in
      let m : mark_read big e u.abbreviations bytes ≡ Ok (Open i.root, i.rest) = read_is (Mark ReadEntry) (mark_at big e u.abbreviations) (mark_read big e u.abbreviations) bytes (Open i.root, i.rest) (mark_law big e u.abbreviations) i.row in
      let less : length i.rest < length bytes = mark_shorter big e u.abbreviations bytes (Open i.root, i.rest) m in
      let fuel : length bytes ≡ suc (length bytes - 1) = omega (arith, less) in
      let to : ℕ = from + (length bytes - length i.rest) in
      let more = rows_until big e u.abbreviations (length bytes - 1) to (next_depth (Open i.root) 0) i.rest in
      record {
        root = record { from = from; depth = 0; mark = Open i.root; to = to };
        rest = more.rows;
        fault = more.fault;
        has = record {
          placed = placed;
          rows = ap (λ (n : ℕ). rows_until big e u.abbreviations n from 0 bytes) fuel ∙ until_step big e u.abbreviations (length bytes - 1) from 0 bytes i.rest (Open i.root) m;
          is_root = refl;
        };
      }

  rooted_with : (o : Option (UnitRef R E)) (u : UnitFields R E) → Rooted u → Rooted (with_skeleton o u)
  rooted_with None u r = r
  rooted_with (Some s) u r = record { root = r.root; rest = r.rest; fault = r.fault; has = record { placed = r.has.placed; rows = r.has.rows; is_root = r.has.is_root } }

  -- the next unit has a root, since it was read
  pub rooted_next : (s : FilterUnitSection R E) (u : UnitFields R E) → IsNextUnit reading s u → Rooted u
  rooted_next s u n =
      let h = n.as_read.header in
      let place : (reading h.body).place ≡ (reading s.headers.input).place + n.passes.unit.read.size = ap (λ (r : Reading). r.place) n.passes.unit.body in
      let begin : h.offset.0 ≡ (reading s.headers.input).place = n.passes.unit.offset in
      subst (λ (x : UnitFields R E). Rooted x) (sym n.is) (rooted_with s.skeleton_unit n.as_read (rooted_read s.dwarf.now n.as_read n.unit (omega (arith, place, begin))))
