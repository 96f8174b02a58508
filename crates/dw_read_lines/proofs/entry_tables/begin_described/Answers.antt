use Rattle.std.proofs.Common.{ap, refl}
use Rattle.std.proofs.lemmas.Result.{err_from_is_err_and}
use Rattle.dw_base.specs.declared.common.Encoding.{Encoding}
use Rattle.dw_read.proofs.Lefts.{same_order}
use Rattle.dw_read_lines.specs.LineEntries.{Described}
use Rattle.dw_read_lines.proofs.entry_tables.begin_described.Goals as goal

pub returns-in_err-description-clause-err : goal.returns-in_err-description-clause-err
returns-in_err-description-clause-err g c =
    let p = err_from_is_err_and c.from_residual.result c.from_residual.ensures.1 in
    rw (p.1, p.2) c.in_err-description.ensures.err

pub returns-clause-ok : goal.returns-clause-ok
returns-clause-ok g c =
    let d = c.in_ok-description.ensures.ok in
    record {
      parts = d.parts;
      described = d.described;
      layout = ap (λ (e : Encoding). Described e d.parts) c.in_ok-description.ensures.encoded;
      input = d.is;
      not_ended = refl;
    }

pub returns-clause-order : goal.returns-clause-order
returns-clause-order g c = same_order _ _ _ c.in_ok-description.ensures.went.passes
