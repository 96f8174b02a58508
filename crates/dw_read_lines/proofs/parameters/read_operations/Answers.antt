use Rattle.std.proofs.Common.{arith, ℕ, refl}
use Rattle.std.proofs.lemmas.Bool.{le-leb, lt-leb}
use Rattle.std.proofs.lemmas.Result.{IfOk-weaker, IfErr-weaker}
use Rattle.dw_read.proofs.Chain.{took, went_none, number_took, number_not}
use Rattle.dw_read_lines.specs.LineHeaders.{operations_read}
use Rattle.dw_read_lines.proofs.parameters.read_operations.Goals as goal

pub returns-then-version-ge4-clause-err : goal.returns-then-version-ge4-clause-err
unfolding operations_read
returns-then-version-ge4-clause-err g c =
    let v = le-leb 4 c.args.version (omega arith) in
    IfErr-weaker c.read_u8.result _ _ (λ e h. rw v (number_not _ 1 _ _ refl h)) c.read_u8.ensures.err

pub returns-then-version-ge4-clause-ok : goal.returns-then-version-ge4-clause-ok
unfolding operations_read
returns-then-version-ge4-clause-ok g c =
    let big = (g.R.Reader.reading c.args.input.now).is_big in
    let v = le-leb 4 c.args.version (omega arith) in
    IfOk-weaker c.read_u8.result _ _ (λ n h. record { count = h.count; passes = h.passes; value = rw v (number_took big 1 _ _ _ refl h) }) c.read_u8.ensures.ok

pub returns-clause-ok : goal.returns-clause-ok
unfolding operations_read
returns-clause-ok g c =
    let big = (g.R.Reader.reading c.args.input.now).is_big in
    took ℕ (operations_read big c.args.version) _ _ _ (went_none _ (g.met.R.Reader.is_reading c.args.input.now)) (rw (lt-leb 4 c.args.version (omega arith)) refl)
