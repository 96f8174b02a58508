-- What a loop over rows has written so far.
use Rattle.std.proofs.Common.{◌≡◌, ◌∙◌, sym, ap, subst, ℕ, suc, ◌+◌, ◌<◌, ◌≤◌, ◌&&◌, List, [], ◌∷◌, ◌++◌, length, drop, get_or, refl, arith, IsTrue, append_assoc, append-nil}
use Rattle.std.proofs.Math.Seq.{drop-cons, drop-length}
use Rattle.dw_base.specs.Leb128.{fits_i64}
use Rattle.dw_base.specs.declared.error.Error.{Error}
use Rattle.dw_base.specs.declared.error.Error.TheVariants.{NoMemory, WriteFault, ValueTooLarge}
use Rattle.dw_writer.specs.Meaning.{Meaning, Adds}
use Rattle.dw_writer.proofs.Steps.{Adds-then}
use Rattle.dw_line.specs.RawRows.{RawRow, line_change}
use Rattle.dw_line.specs.RowTexts.{row_text, rows_text, last_row, IsOrdered, lines_fit, LineRefused, RowsRefused}
use Rattle.dw_line.proofs.Steps.{Adds-none, risen_before}

-- the rows before the i-th are written, of which last is the last one
pub record AreWritten (a b : Meaning) (m : ℕ) (first : RawRow) (rows : List RawRow) (last : RawRow) (i : ℕ) : Type 0 where
  pub done : List ℕ
  pub added : Adds a b done
  pub text : rows_text m first rows ≡ done ++ rows_text m last (drop i rows)
  pub ordered : IsOrdered last (drop i rows)
  pub lines : lines_fit first rows ≡ lines_fit last (drop i rows)
  pub final : last_row first rows ≡ last_row last (drop i rows)

pub written_none : (a : Meaning) (m : ℕ) (first : RawRow) (rows : List RawRow) → IsOrdered first rows → AreWritten a a m first rows first 0
written_none a m first rows ordered = record { done = []; added = Adds-none a; text = refl; ordered = ordered; lines = refl; final = refl }

module _ {a b : Meaning} {m : ℕ} {first : RawRow} {rows : List RawRow} {last : RawRow} {i : ℕ} (w : AreWritten a b m first rows last i) where
  pub written_all : length rows ≤ i → i ≤ length rows → Adds a b (rows_text m first rows) × IsTrue (lines_fit first rows) × (last ≡ last_row first rows)
  written_all le ge =
      let e : i ≡ length rows = omega arith in
      let none : drop i rows ≡ [] = ap (λ k. drop k rows) e ∙ drop-length rows in
      (subst (Adds a b) (sym (w.text ∙ ap (λ rs. w.done ++ rows_text m last rs) none ∙ append-nil w.done)) w.added, w.lines ∙ ap (lines_fit last) none, sym (w.final ∙ ap (last_row last) none))

  module _ (r d : RawRow) (below : i < length rows) (is : r ≡ get_or rows i d) where
    rest : drop i rows ≡ r ∷ drop (suc i) rows
    rest = drop-cons rows i d below ∙ ap (λ x. x ∷ drop (suc i) rows) (sym is)

    pub next_ordered : last.address_offset ≤ r.address_offset
    next_ordered = (subst (IsOrdered last) rest w.ordered).0

    pub written_more : {c : Meaning} → Adds b c (row_text m last r) → IsTrue (fits_i64 (line_change last.line r.line)) → AreWritten a c m first rows r (i + 1)
    written_more {c} add fits =
        let e : suc i ≡ i + 1 = omega arith in
        subst (AreWritten a c m first rows r) e
        (record {
          done = w.done ++ row_text m last r;
          added = Adds-then w.added add;
          text = w.text ∙ ap (λ rs. w.done ++ rows_text m last rs) rest ∙ sym (append_assoc w.done (row_text m last r) (rows_text m r (drop (suc i) rows)));
          ordered = (subst (IsOrdered last) rest w.ordered).1;
          lines = w.lines ∙ ap (lines_fit last) rest ∙ ap (λ t. t && lines_fit r (drop (suc i) rows)) fits;
          final = w.final ∙ ap (last_row last) rest;
        })

    pub line_refused : (c : Meaning) (e : Error) → LineRefused b c last.line r.line e → RowsRefused a c first rows e
    line_refused c ValueTooLarge h = w.lines ∙ ap (lines_fit last) rest ∙ ap (λ t. t && lines_fit r (drop (suc i) rows)) h
    line_refused c NoMemory h = tt
    line_refused c WriteFault h = risen_before c w.added.same h
    line_refused c _ h = absurd h
