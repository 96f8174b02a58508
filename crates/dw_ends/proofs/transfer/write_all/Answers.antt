use Rattle.std.proofs.Common.{arith, length-drop}
use Rattle.std.proofs.lemmas.List.{take_rest}
use Rattle.dw_ends.proofs.Moves.{with_after-more}
use Rattle.dw_ends.proofs.transfer.write_all.Goals as goal

-- What was written before and what one more write took join to one front of the text.
pub pieces-preserved : goal.pieces-preserved
pieces-preserved g c =
    let text = c.args.text.now in
    let done = c.pieces.done in
    let rest = take_rest text done in
    let fits = rw rest at c.in_ok-count.ensures.fits in
    let taken = rw rest at c.in_ok-count.ensures.taken in
    record {
      within = omega (arith, fits, length-drop done text);
      counted = omega (arith, c.write.ensures.faults);
      taken =
          with_after-more (g.K.Sink.intake c.args.sink.now).taken (g.K.Sink.intake c.pieces.sink).taken
          (g.K.Sink.intake c.write.new.self).taken text done c.in_ok-count.count c.pieces.invariant.taken taken;
    }
