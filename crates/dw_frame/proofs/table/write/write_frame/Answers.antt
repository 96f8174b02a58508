use Rattle.std.specs.Prelude.{◌≤◌}
use Rattle.std.proofs.Common.{subst, sym, arith}
use Rattle.std.proofs.lemmas.Result.{err_from_is_err_and}
use Rattle.dw_writer.proofs.Outcomes.{OnOk-map}
use Rattle.dw_frame.specs.Places.{known, AreBefore}
use Rattle.dw_frame.proofs.TableSteps.{got_at, place_before, before_more, frame_puts, frame_refused, frame_told, written_size}
use Rattle.dw_frame.specs.Fdes.{fde_part}
use Rattle.dw_frame.proofs.table.write.write_frame.Goals as goal

pub write-requires : goal.write-requires
write-requires g c =
    let known_place = rw c.get.ensures at c.in_ok-place.ensures.place in
    rw known_place (place_before ((known c.args.places.now.places.items) c.args.fde.now.0.0) (g.W.Writer.meaning c.args.w.now).size (g.W.Writer.meaning c.write_new_cie.new.w).size (c.requires.behind c.args.fde.now.0.0) (omega (arith, c.in_ok-place.ensures.part.0.size)))

pub returns-in_err-place-clause-part : goal.returns-in_err-place-clause-part
returns-in_err-place-clause-part g c =
    let cie = c.index-cies-index.result in
    let got = got_at c.args.cies.now c.args.fde.now.0.0 cie c.requires.own (rw c.index.ensures at c.index-cies-index.is) in
    let e = c.in_err-place.field-0.0 in
    let p = err_from_is_err_and c.from_residual.result c.from_residual.ensures.1 in
    let why = rw c.get.ensures at c.in_err-place.ensures.part in
    rw (p.1, p.2) (frame_refused c.args.kind c.args.cies.now (known c.args.places.now.places.items) c.args.fde.now cie (g.W.Writer.meaning c.args.w.now) (g.W.Writer.meaning c.write_new_cie.new.w) got e why)

pub returns-clause-part : goal.returns-clause-part
returns-clause-part g c =
    let cie = c.index-cies-index.result in
    let got = got_at c.args.cies.now c.args.fde.now.0.0 cie c.requires.own (rw c.index.ensures at c.index-cies-index.is) in
    let place = rw c.get.ensures at c.in_ok-place.ensures.place in
    let first = rw c.get.ensures at c.in_ok-place.ensures.part in
    frame_puts c.args.kind c.args.cies.now (known c.args.places.now.places.items) c.args.fde.now cie c.write.result (g.W.Writer.meaning c.args.w.now) (g.W.Writer.meaning c.write_new_cie.new.w) (g.W.Writer.meaning c.write.new.w) c.in_ok-place.place got place first c.write.ensures.part

pub returns-clause-told : goal.returns-clause-told
returns-clause-told g c =
    let cie = c.index-cies-index.result in
    let got = got_at c.args.cies.now c.args.fde.now.0.0 cie c.requires.own (rw c.index.ensures at c.index-cies-index.is) in
    let place = rw c.get.ensures at c.in_ok-place.ensures.place in
    let first = rw c.get.ensures at c.in_ok-place.ensures.part in
    frame_told c.write.result (g.W.Writer.meaning c.args.w.now) (g.W.Writer.meaning c.write_new_cie.new.w) (g.W.Writer.meaning c.write.new.w) c.args.kind c.args.cies.now (known c.args.places.now.places.items) c.args.fde.now cie c.in_ok-place.place got place first c.write.ensures.part c.write.ensures.ranged c.tell_widths.ensures

pub returns-clause-before : goal.returns-clause-before
returns-clause-before g c =
    let place = rw c.get.ensures at c.in_ok-place.ensures.place in
    let n = (g.W.Writer.meaning c.write_new_cie.new.w).size in
    let below : (g.W.Writer.meaning c.args.w.now).size ≤ n = omega (arith, c.in_ok-place.ensures.part.0.size) in
    let here : c.in_ok-place.place ≤ n = subst (λ k. k ≤ n) (sym place) (place_before ((known c.args.places.now.places.items) c.args.fde.now.0.0) (g.W.Writer.meaning c.args.w.now).size n (c.requires.behind c.args.fde.now.0.0) below) in
    OnOk-map c.write.result (written_size c.write.result (g.W.Writer.meaning c.write_new_cie.new.w) (g.W.Writer.meaning c.write.new.w) (fde_part c.args.kind c.in_ok-place.place c.index-cies-index.result c.args.fde.now.1) c.write.ensures.part)
    (λ size. subst (λ p. AreBefore p (g.W.Writer.meaning c.write.new.w).size) (sym c.set.ensures.places)
    (before_more (known c.args.places.now.places.items) c.args.fde.now.0.0 c.in_ok-place.place (g.W.Writer.meaning c.args.w.now).size (g.W.Writer.meaning c.write.new.w).size c.requires.behind (omega (arith, size, here)) (omega (arith, size, below))))
