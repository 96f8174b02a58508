use Rattle.std.proofs.Common.{get_or, arith}
use Rattle.std.proofs.lemmas.Int.{ints}
use Rattle.dw_expr.proofs.WriteSteps.{OnOk-both, distance_written, distance_sound, got_there}
use Rattle.dw_expr.proofs.op.write.write_distance.Goals as goal

pub returns-clause-ok : goal.returns-clause-ok
returns-clause-ok g c =
    OnOk-both c.write_sdata.result c.write_sdata.ensures.ok c.write_sdata.ensures.fits
    (λ p fit. distance_written c.args.starts.now c.args.from c.in-Some.index (get_or c.args.starts.now c.in-Some.index 0) c.args.target _ c.in-Some.is (got_there c.args.starts.now c.in-Some.index c.if-index-starts.false)
    (omega (arith, ints, c.type_inv.starts c.in-Some.index)) fit.1 p)

pub returns-clause-sound : goal.returns-clause-sound
returns-clause-sound g c =
    OnOk-both c.write_sdata.result c.write_sdata.ensures.ok c.write_sdata.ensures.fits
    (λ p fit. distance_sound c.args.starts.now c.args.from c.in-Some.index (get_or c.args.starts.now c.in-Some.index 0) c.args.target _ c.in-Some.is (got_there c.args.starts.now c.in-Some.index c.if-index-starts.false)
    (omega (arith, ints, c.type_inv.starts c.in-Some.index)) fit.1 p)
