-- What a loop over rows has written so far, where the rows have files by their ids.
use Rattle.std.proofs.Common.{◌≡◌, ◌∙◌, sym, ap, subst, ℕ, suc, ◌+◌, ◌%◌, ◌<◌, ◌^◌, ◌≤◌, Bool, true, false, ◌&&◌, ◌==◌, nat_le, nat_lt, List, [], ◌∷◌, length, map, take, drop, get_or, refl, arith, All, IsTrue, if◌then◌else◌}
use Rattle.std.proofs.Math.Seq.{drop-cons, drop-length}
use Rattle.std.proofs.lemmas.Bool.{and_parts}
use Rattle.std.proofs.lemmas.Bool.Decides.{nat_tests}
use Rattle.std.proofs.lemmas.List.{get_or-map, length-map, take_all}
use Rattle.std.proofs.lemmas.List.Elements.{All-nil, All-more}
use Rattle.dw_base.specs.Leb128.{fits_i64}
use Rattle.dw_base.specs.declared.error.Error.{Error}
use Rattle.dw_writer.specs.Meaning.{Meaning, Adds}
use Rattle.dw_line.specs.LineRows.{raw_file, raw_row, are_in_order, last_offset, IsRanged}
use Rattle.dw_line.specs.RawRows.{line_change}
use Rattle.dw_line.specs.RowTexts.{row_text, rows_text, last_row, lines_fit, IsOrdered, LineRefused, RowsRefused}
use Rattle.dw_line.specs.declared.row.LineRow.{LineRow}
use Rattle.dw_line.proofs.RowsSteps.{AreWritten, written_none, written_all, written_more, line_refused}

pub le_of : (a b : ℕ) → IsTrue (nat_le a b) → a ≤ b
le_of a b h = grind (arith, nat_tests)

pub lt_of : (a b : ℕ) → IsTrue (nat_lt a b) → a < b
lt_of a b h = grind (arith, nat_tests)

pub eq_of : (a b : ℕ) → IsTrue (a == b) → a ≡ b
eq_of a b h = grind (arith, nat_tests)

-- a file's number lies in its type
pub raw_file_small : (version index : ℕ) → index < 0xffff_ffff_ffff_ffff → raw_file version index < 2 ^ 64
raw_file_small version index h = by (nat_le version 4)
  where
    by : (b : Bool) → (if b then index + 1 else index) < 2 ^ 64
    by true = omega arith
    by false = omega arith

-- rows in order: the first one of them, and the rest
pub record IsFirstInOrder (m from : ℕ) (r : LineRow) (rs : List LineRow) : Type 0 where
  pub reached : from ≤ r.address_offset
  pub multiple : r.address_offset % m ≡ 0
  pub file : r.file.0 < 0xffff_ffff_ffff_ffff
  pub more : IsTrue (are_in_order m r.address_offset rs)

pub order_parts : (m from : ℕ) (r : LineRow) (rs : List LineRow) → IsTrue (are_in_order m from (r ∷ rs)) → IsFirstInOrder m from r rs
order_parts m from r rs h =
    let a = nat_le from r.address_offset in
    let b = r.address_offset % m == 0 in
    let c = nat_lt r.file.0 0xffff_ffff_ffff_ffff in
    let p = and_parts (a && b && c) (are_in_order m r.address_offset rs) h in
    let q = and_parts (a && b) c p.0 in
    let o = and_parts a b q.0 in
    record { reached = le_of _ _ o.0; multiple = eq_of _ _ o.1; file = lt_of _ _ q.1; more = p.1 }

pub ordered_raw : (v m : ℕ) (first : LineRow) (rows : List LineRow) → IsTrue (are_in_order m first.address_offset rows) → IsOrdered (raw_row v first) (map (raw_row v) rows)
ordered_raw v m first [] h = tt
ordered_raw v m first (r ∷ rs) h = let p = order_parts m first.address_offset r rs h in (p.reached, ordered_raw v m r rs p.more)

pub record AreRowsWritten (a b : Meaning) (v m : ℕ) (first : LineRow) (rows : List LineRow) (last : LineRow) (i : ℕ) : Type 0 where
  pub raw : AreWritten a b m (raw_row v first) (map (raw_row v) rows) (raw_row v last) i
  pub order : IsTrue (are_in_order m last.address_offset (drop i rows))
  pub file : last.file.0 < 0xffff_ffff_ffff_ffff
  pub offset : last_offset first.address_offset rows ≡ last_offset last.address_offset (drop i rows)
  pub ranged : All IsRanged (take i (map (raw_row v) rows))

pub rows_none : (a : Meaning) (v m : ℕ) (first : LineRow) (rows : List LineRow) → first.file.0 < 0xffff_ffff_ffff_ffff → IsTrue (are_in_order m first.address_offset rows) → AreRowsWritten a a v m first rows first 0
rows_none a v m first rows file order = record {
  raw = written_none a m (raw_row v first) (map (raw_row v) rows) (ordered_raw v m first rows order);
  order = order;
  file = file;
  offset = refl;
  ranged = All-nil IsRanged;
}

module _ {a b : Meaning} {v m : ℕ} {first : LineRow} {rows : List LineRow} {last : LineRow} {i : ℕ} (w : AreRowsWritten a b v m first rows last i) where
  pub rows_all : length rows ≤ i → i ≤ length rows → Adds a b (rows_text m (raw_row v first) (map (raw_row v) rows)) × IsTrue (lines_fit (raw_row v first) (map (raw_row v) rows)) × (raw_row v last ≡ last_row (raw_row v first) (map (raw_row v) rows))
  rows_all le ge = written_all w.raw (omega (arith, length-map rows (raw_row v))) (omega (arith, length-map rows (raw_row v)))

  pub offset_all : length rows ≤ i → i ≤ length rows → last.address_offset ≡ last_offset first.address_offset rows
  offset_all le ge =
      let e : i ≡ length rows = omega arith in
      let none : drop i rows ≡ [] = ap (λ k. drop k rows) e ∙ drop-length rows in
      sym (w.offset ∙ ap (last_offset last.address_offset) none)

  pub ranged_all : length rows ≤ i → All IsRanged (map (raw_row v) rows)
  ranged_all le = subst (All IsRanged) (take_all i (map (raw_row v) rows) (omega (arith, length-map rows (raw_row v)))) w.ranged

  module _ (d : LineRow) (below : i < length rows) where
    rest : drop i rows ≡ get_or rows i d ∷ drop (suc i) rows
    rest = drop-cons rows i d below

    pub first_of_rest : IsFirstInOrder m last.address_offset (get_or rows i d) (drop (suc i) rows)
    first_of_rest = order_parts m last.address_offset (get_or rows i d) (drop (suc i) rows) (subst (λ rs. IsTrue (are_in_order m last.address_offset rs)) rest w.order)

    raw_below : i < length (map (raw_row v) rows)
    raw_below = omega (arith, length-map rows (raw_row v))

    raw_is : raw_row v (get_or rows i d) ≡ get_or (map (raw_row v) rows) i (raw_row v d)
    raw_is = sym (get_or-map (raw_row v) rows i d (raw_row v d) below)

    pub rows_more : {c : Meaning} → Adds b c (row_text m (raw_row v last) (raw_row v (get_or rows i d))) → IsTrue (fits_i64 (line_change last.line (get_or rows i d).line)) → IsRanged (raw_row v (get_or rows i d)) → AreRowsWritten a c v m first rows (get_or rows i d) (i + 1)
    rows_more {c} add fits ranged =
        let e : suc i ≡ i + 1 = omega arith in
        record {
          raw = written_more w.raw (raw_row v (get_or rows i d)) (raw_row v d) raw_below raw_is add fits;
          order = subst (λ k. IsTrue (are_in_order m (get_or rows i d).address_offset (drop k rows))) e first_of_rest.more;
          file = first_of_rest.file;
          offset = w.offset ∙ ap (last_offset last.address_offset) (rest ∙ ap (λ k. get_or rows i d ∷ drop k rows) e);
          ranged = All-more IsRanged (map (raw_row v) rows) i (raw_row v d) raw_below w.ranged (subst IsRanged raw_is ranged);
        }

    pub rows_refused : (c : Meaning) (e : Error) → LineRefused b c last.line (get_or rows i d).line e → RowsRefused a c (raw_row v first) (map (raw_row v) rows) e
    rows_refused c e h = line_refused w.raw (raw_row v (get_or rows i d)) (raw_row v d) raw_below raw_is c e h
