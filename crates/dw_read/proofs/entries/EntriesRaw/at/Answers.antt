use Rattle.std.proofs.Common.{ℕ, ◌-◌, ◌<◌, length, subst, refl, inr}
use Rattle.dw_read.specs.Reading.{Reading, left}
use Rattle.dw_read.proofs.RowLaws.{too_short}
use Rattle.dw_read.proofs.entries.EntriesRaw.at.Goals as goal

pub returns-clause-err : goal.returns-clause-err
returns-clause-err g c =
    let short = too_short (c.args.offset.0 - c.size-begin.result) _ _ c.in-Err.ensures.err in
    let body = g.R.Reader.reading c.args.header.now.body in (
      refl,
      inr (subst (λ (n : ℕ). length (left body) < c.args.offset.0 - n) c.size-begin.ensures (subst (λ (r : Reading). length (left r) < c.args.offset.0 - c.size-begin.result) c.duplicate-input.ensures short)),
    )
