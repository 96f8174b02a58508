use Rattle.std.proofs.Common.{◌≡◌, ◌∙◌, subst, refl, Bool, Ok, Err}
use Rattle.std.proofs.lemmas.Result.{err_from_is_err_and}
use Rattle.dw_read.specs.Reading.{Reading, left}
use Rattle.dw_read.specs.Reasons.{bytes_read}
use Rattle.dw_read_lines.specs.LineHeaders.{lines_read, lines_at_place}
use Rattle.dw_read_lines.specs.LineHeaderViews.{lines_of}
use Rattle.dw_read_lines.proofs.Orders.{passed_over}
use Rattle.dw_read_lines.proofs.program.IncompleteLineProgram.new.Goals as goal

pub returns-in_err-skip-clause-err : goal.returns-in_err-skip-clause-err
unfolding lines_at_place
returns-in_err-skip-clause-err g c =
    let p = err_from_is_err_and c.from_residual.result c.from_residual.ensures.1 in
    let e = subst (λ (r : Reading). bytes_read c.args.offset.0 (left r) ≡ Err c.in_err-skip.field-0.0) c.duplicate-input.ensures c.in_err-skip.ensures.err.reason in
    rw (p.1, p.2, e) refl

pub returns-in_err-header-clause-err : goal.returns-in_err-header-clause-err
unfolding lines_at_place
returns-in_err-header-clause-err g c =
    let reading = g.R.Reader.reading in
    let section = reading c.args.dwarf.now.debug_line in
    let s = passed_over c.args.offset.0 section _ _ c.duplicate-input.ensures (g.met.R.Reader.is_reading c.args.dwarf.now.debug_line) c.in_ok-skip.ensures.ok in
    let e = subst (λ (b : Bool). lines_read b c.args.address_size (left (reading c.skip.new.self)) ≡ Err c.in_err-header.field-0.0) s.0 c.in_err-header.ensures.err in
    let p = err_from_is_err_and c.from_residual-in_err-header.result c.from_residual-in_err-header.ensures.1 in
    rw (p.1, p.2, s.1, e) refl

pub returns-clause-ok : goal.returns-clause-ok
unfolding lines_at_place
returns-clause-ok g c =
    let reading = g.R.Reader.reading in
    let section = reading c.args.dwarf.now.debug_line in
    let s = passed_over c.args.offset.0 section _ _ c.duplicate-input.ensures (g.met.R.Reader.is_reading c.args.dwarf.now.debug_line) c.in_ok-skip.ensures.ok in
    let e = subst (λ (b : Bool). lines_read b c.args.address_size (left (reading c.skip.new.self)) ≡ Ok (lines_of reading c.in_ok-header.header)) s.0 c.in_ok-header.ensures.ok in
    rw (s.1, e) refl

pub returns-clause-order : goal.returns-clause-order
returns-clause-order g c =
    let reading = g.R.Reader.reading in
    let section = reading c.args.dwarf.now.debug_line in
    let s = passed_over c.args.offset.0 section _ _ c.duplicate-input.ensures (g.met.R.Reader.is_reading c.args.dwarf.now.debug_line) c.in_ok-skip.ensures.ok in
    record { tables = c.in_ok-header.ensures.order.tables ∙ s.0; counts = c.in_ok-header.ensures.order.counts ∙ s.0 }
