-- What a sequence's parts add, and why they are refused.
use Rattle.std.proofs.Common.{◌≡◌, ap, subst, ℕ, ◌-◌, ◌*◌, ◌/◌, ◌%◌, ◌^◌, ◌<◌, ◌≤◌, Bool, List, [], ◌∷◌, map, Option, Some, None, arith, All, IsTrue, nat_le, ◌==◌}
use Rattle.std.proofs.lemmas.Bool.{and_parts}
use Rattle.std.proofs.lemmas.List.Elements.{All-head, All-tail}
use Rattle.std.proofs.Math.Nat.{mul-sub}
use Rattle.dw_base.specs.Leb128.{fits_i64}
use Rattle.dw_base.specs.declared.address.Address.{Address}
use Rattle.dw_writer.specs.Meaning.{Meaning, Adds, Appends}
use Rattle.dw_writer.specs.SectionTexts.{address_text}
use Rattle.dw_writer.proofs.Steps.{Adds-appends, Adds-then, Appends-then}
use Rattle.dw_base.specs.LineMachine.{LineHeader}
use Rattle.dw_line.specs.LineRows.{raw_row, built_sequence, are_in_order, last_offset, is_end_in_order, IsRanged}
use Rattle.dw_line.specs.RawRows.{row_before, line_change, IsReached, IsRowAfter, AreRowsAfter}
use Rattle.dw_line.specs.RowTexts.{rows_text, last_row, end_text, sequence_rows_text, lines_fit}
use Rattle.dw_line.specs.SequenceTexts.{set_address_prefix, set_address_size, set_address_model, sequence_size, sequence_model}
use Rattle.dw_line.specs.declared.row.LineRow.{LineRow}
use Rattle.dw_line.proofs.Steps.{Adds-none}
use Rattle.dw_line.proofs.LineRowsSteps.{order_parts, le_of, eq_of}

pub set_none : (m : Meaning) (w : ℕ) → Appends m m (set_address_size w None) (set_address_model w None)
set_none m w = Adds-appends (Adds-none m)

pub set_some : {a b c : Meaning} (w : ℕ) (at : Address) → Adds a b (set_address_prefix w) → Appends b c w (address_text w at) → Appends a c (set_address_size w (Some at)) (set_address_model w (Some at))
set_some w at p q = Appends-then (Adds-appends p) q

-- a sequence, of its address, its rows and its end
pub sequence_added : {a b c d : Meaning} (v size m : ℕ) (default : Bool) (first last : LineRow) (address : Option Address) (rows : List LineRow) (end : Option ℕ) →
    Appends a b (set_address_size size address) (set_address_model size address) → Adds b c (rows_text m (raw_row v first) (map (raw_row v) rows)) →
    raw_row v first ≡ row_before default → raw_row v last ≡ last_row (raw_row v first) (map (raw_row v) rows) → Adds c d (end_text m last.address_offset end) →
    Appends a d (sequence_size size m (row_before default) (built_sequence v address rows end)) (sequence_model size m (row_before default) (built_sequence v address rows end))
sequence_added {a} {b} {c} {d} v size m default first last address rows end p q first_is last_is r =
    let rs = map (raw_row v) rows in
    let ended : Adds c d (end_text m (last_row (raw_row v first) rs).address_offset end) = subst (λ k. Adds c d (end_text m k end)) (ap (λ x. x.address_offset) last_is) r in
    let whole : Adds b d (sequence_rows_text m (row_before default) rs end) = subst (λ x. Adds b d (sequence_rows_text m x rs end)) first_is (Adds-then q ended) in
    Appends-then p (Adds-appends whole)

-- a multiple after another
reached : (h : LineHeader) (a b : ℕ) → 0 < h.minimum_length → a % h.minimum_length ≡ 0 → b % h.minimum_length ≡ 0 → a ≤ b → b < 2 ^ 64 → IsReached h a b
reached h a b positive x y le small =
    let m = h.minimum_length in
    let p : m * (a / m) ≡ a = omega arith in
    let q : m * (b / m) ≡ b = omega arith in
    record { count = b / m - a / m; is = omega (arith, mul-sub m (b / m) (a / m), p, q); fits = small }

-- an end lies in its type
abbrev pub IsEndRanged : Option ℕ → Type 0
IsEndRanged None = Unit {0}
IsEndRanged (Some end) = end < 2 ^ 64

module _ (h : LineHeader) (v : ℕ) (positive : 0 < h.minimum_length) where
  pub rows_after : (from : LineRow) (rows : List LineRow) (end : Option ℕ) → from.address_offset % h.minimum_length ≡ 0 → IsTrue (are_in_order h.minimum_length from.address_offset rows) →
      IsTrue (is_end_in_order h.minimum_length (last_offset from.address_offset rows) end) → IsEndRanged end → IsTrue (lines_fit (raw_row v from) (map (raw_row v) rows)) → All IsRanged (map (raw_row v) rows) →
      AreRowsAfter h (raw_row v from) (map (raw_row v) rows) end
  rows_after from [] None multiple order ended small lines ranged = tt
  rows_after from [] (Some end) multiple order ended small lines ranged =
      let p = and_parts (nat_le from.address_offset end) (end % h.minimum_length == 0) ended in
      reached h from.address_offset end positive multiple (eq_of _ _ p.1) (le_of _ _ p.0) small
  rows_after from (r ∷ rs) end multiple order ended small lines ranged =
      let p = order_parts h.minimum_length from.address_offset r rs order in
      let f = and_parts (fits_i64 (line_change from.line r.line)) (lines_fit (raw_row v r) (map (raw_row v) rs)) lines in
      let here : IsRanged (raw_row v r) = All-head IsRanged (raw_row v r) (map (raw_row v) rs) ranged in
      let row : IsRowAfter h (raw_row v from) (raw_row v r) = record {
        reached = reached h from.address_offset r.address_offset positive multiple p.multiple p.reached here.address_offset;
        line = f.0;
        file = here.file;
        column = here.column;
        discriminator = here.discriminator;
        isa = here.isa;
      } in
      (row, rows_after r rs end p.multiple p.more ended small f.1 (All-tail IsRanged (raw_row v r) (map (raw_row v) rs) ranged))
