-- A unit that is read begins with its root.
use Rattle.std.proofs.Common.{◌≡◌, sym, ap, subst, ℕ, zero, suc, ◌+◌, ◌<◌, ◌≤◌, List, [], ◌∷◌, length, Bool, Result, Ok, refl, arith}
use Rattle.dw_base.specs.Abbreviations.{Declaration}
use Rattle.dw_base.specs.Entries.{ReadEntry, Mark, Open, Row, mark_at, next_depth}
use Rattle.dw_base.specs.Info.{ReadUnit}
use Rattle.dw_base.specs.declared.common.Encoding.{Encoding}
use Rattle.dw_read.specs.Reading.{Reading, left}
use Rattle.dw_read.specs.FormReasons.{mark_read}
use Rattle.dw_read.specs.declared.error.ReadError.{ReadError}
use Rattle.dw_read.proofs.FormLaws.{mark_law}
use Rattle.dw_read.proofs.Items.{then_parts}
use Rattle.dw_read.proofs.Laws.{read_is}
use Rattle.dw_read.proofs.Shorter.{mark_shorter}
use Rattle.dw_read_units.specs.Walks.{rows_read}
use Rattle.dw_read_units.specs.declared.dwarf.Dwarf.{Dwarf}
use Rattle.dw_entry_ids.specs.Ids.{entry_count}
use Rattle.dw_entry_ids.proofs.KeptLaws.{some_kept}
use Rattle.dw_entry_ids.specs.Units.{IsNumbered}
use Rattle.dw_entry_ids.specs.declared.units.NumberedUnit.{NumberedUnit}

first_counted : (r : Row) (rows all : List Row) (root : ReadEntry) → r.mark ≡ Open root → ◌≡◌ {A = Result (List Row) ReadError} (Ok (r ∷ rows)) (Ok all) → 1 ≤ entry_count all
first_counted r rows all root m e =
    let q : r ∷ rows ≡ all = cc in
    subst (λ l. 1 ≤ entry_count l) q (rw m (let l : 1 ≤ 1 + entry_count rows = omega arith in l))

rows_rooted : (fuel : ℕ) (big : Bool) (e : Encoding) (table : List Declaration) (from depth : ℕ) (bytes rest : List ℕ) (root : ReadEntry) (rows : List Row)
    → mark_read big e table bytes ≡ Ok (Open root, rest) → rows_read fuel big e table from depth bytes ≡ Ok rows → 1 ≤ entry_count rows
unfolding rows_read
rows_rooted fuel big e table from depth [] rest root rows m r = absurd (let s : length rest < 0 = mark_shorter big e table [] (Open root, rest) m in omega arith)
rows_rooted zero big e table from depth (b ∷ bs) rest root rows m r = absurd (cc)
rows_rooted (suc fuel) big e table from depth (b ∷ bs) rest root rows m r =
    let x = then_parts (mark_read big e table (b ∷ bs)) _ rows r in
    let more = then_parts (rows_read fuel big e table _ (next_depth x.0.0 depth) x.0.1) _ rows x.2 in
    let q : x.0 ≡ (Open root, rest) = cc in
    first_counted _ more.0 rows root (ap (λ (y : Mark ReadEntry × List ℕ). y.0) q) more.2

module _ {R E : Type 0} (keep : ℕ → Bool) (reading : R → Reading) (d : Dwarf R E) (held : NumberedUnit R E) (u : ReadUnit) (n : IsNumbered keep reading d held u) where
  pub rooted : 1 ≤ held.entries
  rooted =
      let h = held.unit.header in
      let bytes = left (reading h.body) in
      let m = read_is (Mark ReadEntry) (mark_at (reading h.body).is_big h.fields.encoding held.unit.abbreviations) (mark_read (reading h.body).is_big h.fields.encoding held.unit.abbreviations) bytes (Open n.unit.root, n.unit.rest) (mark_law (reading h.body).is_big h.fields.encoding held.unit.abbreviations) n.unit.row in
      let some : 1 ≤ entry_count u.rows = rows_rooted (length bytes) (reading h.body).is_big h.fields.encoding held.unit.abbreviations _ 0 bytes n.unit.rest n.unit.root u.rows m n.rows in
      subst (λ k. 1 ≤ k) (sym n.count) (some_kept keep u.from 0 u.rows refl some)
