use Rattle.std.proofs.Common.{◌≡◌, ◌∙◌, ap, arith, ◌-◌, ◌+◌, ℕ}
use Rattle.std.proofs.lemmas.Result.{err_from_is_err_and}
use Rattle.dw_read.specs.Reading.{left}
use Rattle.dw_read.proofs.Chain.{went, went_none, went_then}
use Rattle.dw_read_lines.specs.LineEntries.{format_read, past}
use Rattle.dw_read_lines.proofs.PastLaws.{past_none, past_more, past_not}
use Rattle.dw_read_lines.proofs.described.pass_formats.Goals as goal

pub parts-init : goal.parts-init
parts-init g c =
    let e : c.args.count ≡ c.args.count - 0 = omega arith in
    record {
      went = went_none _ (g.met.R.Reader.is_reading c.args.input.now);
      is = ap (λ (n : ℕ). past format_read n (left (g.R.Reader.reading c.args.input.now))) e;
      within = omega arith;
    }

pub returns-in_err-read_format-clause-err : goal.returns-in_err-read_format-clause-err
returns-in_err-read_format-clause-err g c =
    let p = err_from_is_err_and c.from_residual.result c.from_residual.ensures.1 in
    rw (p.1, p.2) (c.parts.invariant.is ∙ past_not (ℕ × ℕ) format_read (c.args.count - c.parts.counter) (c.args.count - (c.parts.counter + 1)) _ _ (omega arith) c.in_err-read_format.ensures.err)

pub parts-preserved : goal.parts-preserved
parts-preserved g c =
    let t = c.in_ok-read_format.ensures.ok in
    record {
      went = went_then _ _ _ c.parts.invariant.went (went _ _ _ _ _ t);
      is = c.parts.invariant.is ∙ past_more (ℕ × ℕ) format_read (c.args.count - c.parts.counter) (c.args.count - (c.parts.counter + 1)) _ _ _ (omega arith) t.value;
      within = omega arith;
    }

pub returns-clause-went : goal.returns-clause-went
returns-clause-went g c = record { count = c.parts.invariant.went.count; passes = c.parts.invariant.went.passes }

pub returns-clause-ok : goal.returns-clause-ok
returns-clause-ok g c = c.parts.invariant.is ∙ past_none (ℕ × ℕ) format_read (c.args.count - c.parts.counter) _ (omega arith)
