use Rattle.std.specs.Prelude.{Ok, Err}
use Rattle.std.proofs.Common.{◌≡◌, ◌-◌, arith, subst}
use Rattle.std.proofs.lemmas.Result.{err_from_is_err_and}
use Rattle.dw_frame.specs.Parts.{Placed, in_turn, Puts}
use Rattle.dw_frame.specs.Entries.{padded}
use Rattle.dw_frame.proofs.PartSteps.{Puts-then}
use Rattle.dw_frame.proofs.EntrySteps.{measured_refused, measured_puts}
use Rattle.dw_frame.proofs.entry.OpenEntry.close.Goals as goal

pub returns-in_err-write_padding : goal.returns-in_err-write_padding
returns-in_err-write_padding g c =
    λ first opened body is written.
    let size = (body opened.size).piece.size in
    let pad = padded c.args.self.encoding size in
    let inner : Placed = λ at. in_turn body (padded c.args.self.encoding (body at).piece.size) at in
    let sized : c.len.result - c.args.self.begin ≡ size = omega (arith, c.len.ensures, is.begin, written.0.size) in
    let e = c.in_err-write_padding.field-0.0 in
    let p = err_from_is_err_and c.from_residual.result c.from_residual.ensures.1 in
    let m = (g.W.Writer.meaning c.args.w.now) in
    let n = (g.W.Writer.meaning c.write_padding.new.w) in
    let why = subst (λ k. Puts {T = Unit {0}} (Err e) m n (padded c.args.self.encoding k)) sized c.in_err-write_padding.ensures in
    rw (p.1, p.2) (measured_refused (Unit {0}) first opened n c.args.self.encoding.format inner is.adds e (Puts-then {T = Unit {0}} (Err e) opened m n body pad written why))

pub returns : goal.returns
returns g c =
    λ first opened body is written.
    let size = (body opened.size).piece.size in
    let pad = padded c.args.self.encoding size in
    let inner : Placed = λ at. in_turn body (padded c.args.self.encoding (body at).piece.size) at in
    let sized : c.len.result - c.args.self.begin ≡ size = omega (arith, c.len.ensures, is.begin, written.0.size) in
    let m = (g.W.Writer.meaning c.args.w.now) in
    let n = (g.W.Writer.meaning c.write_padding.new.w) in
    let x = c.write_initial_length_at.ensures in
    let done = subst (λ k. Puts {T = Unit {0}} (Ok tt) m n (padded c.args.self.encoding k)) sized c.in_ok-write_padding.ensures in
    let whole = Puts-then {T = Unit {0}} (Ok tt) opened m n body pad written done in
    measured_puts c.write_initial_length_at.result first opened n (g.W.Writer.meaning c.write_initial_length_at.new.self) c.args.self.encoding.format inner c.args.self.length_at (c.len-2.result - c.args.self.begin) is.adds is.length_at whole
    (omega (arith, c.len-2.ensures, is.begin)) x.fits x.ok x.err
