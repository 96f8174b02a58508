use Rattle.std.proofs.Common.{◌≡◌, ◌∙◌, sym, ap, ap₂, arith, ◌-◌, ◌+◌, ℕ, Bool}
use Rattle.std.proofs.lemmas.Result.{err_from_is_err_and}
use Rattle.dw_read.specs.Reading.{Reading, left}
use Rattle.dw_read.specs.FormValues.{value_read}
use Rattle.dw_read.specs.Values.{Value}
use Rattle.dw_read.proofs.Chain.{took, went, went_none, went_then, went_order}
use Rattle.dw_read_lines.specs.LineEntries.{Entry, untold, entry_by}
use Rattle.dw_read_lines.specs.LineEntryViews.{described_entry}
use Rattle.dw_read_lines.proofs.Orders.{took_in, err_in}
use Rattle.dw_read_lines.proofs.EntryLaws.{by_none, by_no_format, by_no_value, by_more}
use Rattle.dw_read_lines.proofs.described.read_entry.Goals as goal

pub parts-init : goal.parts-init
parts-init g c =
    let reading = g.R.Reader.reading in
    let big = (reading c.args.input.now).is_big in
    let d = c.args.description.now in
    let e : d.format_count ≡ d.format_count - 0 = omega arith in
    record {
      went = went_none _ (g.met.R.Reader.is_reading c.args.input.now);
      is = ap₂ (λ (n : ℕ) (r : Reading). entry_by big d.encoding.encoding n (left r) untold (left (reading c.args.input.now))) e (sym c.duplicate-formats.ensures)
          ∙ ap (λ (x : Entry). entry_by big d.encoding.encoding (d.format_count - 0) (left (reading c.duplicate-formats.result)) x (left (reading c.args.input.now))) (sym c.untold-entry.ensures);
      within = omega arith;
    }

pub returns-in_err-content-clause-err : goal.returns-in_err-content-clause-err
returns-in_err-content-clause-err g c =
    let d = c.args.description.now in
    let p = err_from_is_err_and c.from_residual.result c.from_residual.ensures.1 in
    rw (p.1, p.2) (c.parts.invariant.is ∙ by_no_format (g.R.Reader.reading c.args.input.now).is_big d.encoding.encoding (d.format_count - c.parts.counter) (d.format_count - (c.parts.counter + 1)) _ _ _ _ (omega arith) c.in_err-content.ensures.err)

pub returns-in_err-value-clause-err : goal.returns-in_err-value-clause-err
returns-in_err-value-clause-err g c =
    let reading = g.R.Reader.reading in
    let big = (reading c.args.input.now).is_big in
    let d = c.args.description.now in
    let o = went_order _ _ c.parts.invariant.went in
    let e = err_in Value (λ (b : Bool). value_read b d.encoding.encoding c.in_ok-content.form.0) big (reading c.parts.input) _ o c.in_err-value.ensures.err in
    let p = err_from_is_err_and c.from_residual-in_err-value.result c.from_residual-in_err-value.ensures.1 in
    rw (p.1, p.2) (c.parts.invariant.is ∙ by_no_value big d.encoding.encoding (d.format_count - c.parts.counter) (d.format_count - (c.parts.counter + 1)) _ _ _ _ _ _ _ (omega arith) c.in_ok-content.ensures.ok.value e)

pub parts-preserved : goal.parts-preserved
parts-preserved g c =
    let reading = g.R.Reader.reading in
    let big = (reading c.args.input.now).is_big in
    let d = c.args.description.now in
    let t = c.in_ok-value.ensures.ok in
    let v = took_in Value (λ (b : Bool). value_read b d.encoding.encoding c.in_ok-content.form.0) big _ _ _ (went_order _ _ c.parts.invariant.went) t in
    record {
      went = went_then _ _ _ c.parts.invariant.went (went _ _ _ _ _ t);
      is = c.parts.invariant.is ∙ by_more big d.encoding.encoding (d.format_count - c.parts.counter) (d.format_count - (c.parts.counter + 1)) _ _ _ _ _ _ _ _ _ (omega arith) c.in_ok-content.ensures.ok.value v c.told-entry.ensures;
      within = omega arith;
    }

pub returns-clause-ok : goal.returns-clause-ok
returns-clause-ok g c =
    let reading = g.R.Reader.reading in
    let big = (reading c.args.input.now).is_big in
    let d = c.args.description.now in
    took Entry (described_entry reading big d) _ _ _ c.parts.invariant.went (c.parts.invariant.is ∙ by_none big d.encoding.encoding (d.format_count - c.parts.counter) _ _ _ (omega arith))
