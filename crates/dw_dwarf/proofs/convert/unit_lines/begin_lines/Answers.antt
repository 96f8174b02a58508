use Rattle.std.proofs.Common.{◌≡◌, subst, ap, Ok, ⊎_elim, inl, inr}
use Rattle.std.proofs.lemmas.Result.{err_from_is_err_and}
use Rattle.dw_read.specs.Reading.{left}
use Rattle.dw_read_lines.specs.LineHeaders.{lines_at_place}
use Rattle.dw_read_lines.specs.LineHeaderViews.{lines_of}
use Rattle.dw_dwarf.proofs.Setting.{is_err}
use Rattle.dw_dwarf.proofs.convert.unit_lines.begin_lines.Goals as goal

pub returns-clause-ok : goal.returns-clause-ok
returns-clause-ok g c =
    let reading = g.R.Reader.reading in
    let lines = reading c.args.read_unit.dwarf.now.debug_line in
    let size = ap (λ e. e.address_size) c.encoding-size.ensures in
    record {
      offset = c.in-Some.offset;
      has = c.in-Some.is;
      begins = rw c.in_ok-begun.ensures.read (record {
        stands = subst (λ n. lines_at_place lines.is_big n c.in-Some.offset.0 (left lines) ≡ Ok (lines_of reading c.in_ok-program.program.header)) size c.in_ok-program.ensures.ok;
        order = c.in_ok-program.ensures.order;
        becomes = c.in_ok-begun.ensures.ok;
      });
    }

pub returns-in_err-begun-clause-err : goal.returns-in_err-begun-clause-err
returns-in_err-begun-clause-err g c =
    let reading = g.R.Reader.reading in
    let lines = reading c.args.read_unit.dwarf.now.debug_line in
    let size = ap (λ e. e.address_size) c.encoding-size.ensures in
    let p = err_from_is_err_and c.from_residual-in_err-begun.result c.from_residual-in_err-begun.ensures.1 in
    rw (p.1, p.2) (⊎_elim inl (λ r. inr (record {
      offset = c.in-Some.offset;
      has = c.in-Some.is;
      why = inr (
        c.in_ok-program.program,
        record {
          stands = subst (λ n. lines_at_place lines.is_big n c.in-Some.offset.0 (left lines) ≡ Ok (lines_of reading c.in_ok-program.program.header)) size c.in_ok-program.ensures.ok;
          order = c.in_ok-program.ensures.order;
          becomes = r;
        },
      );
    })) c.in_err-begun.ensures.err)

pub returns-in_err-program-clause-ok : goal.returns-in_err-program-clause-ok
returns-in_err-program-clause-ok g c = rw (is_err _ _ c.from_residual.ensures) tt

pub returns-in_err-begun-clause-ok : goal.returns-in_err-begun-clause-ok
returns-in_err-begun-clause-ok g c = rw (is_err _ _ c.from_residual-in_err-begun.ensures) tt

pub returns-clause-err : goal.returns-clause-err
returns-clause-err g c = tt

pub returns-in_default-clause-err : goal.returns-in_default-clause-err
returns-in_default-clause-err g c = tt
