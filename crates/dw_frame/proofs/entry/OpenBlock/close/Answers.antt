use Rattle.std.proofs.Common.{arith, ◌-◌}
use Rattle.dw_frame.proofs.EntrySteps.{counted_puts}
use Rattle.dw_frame.proofs.entry.OpenBlock.close.Goals as goal

pub returns : goal.returns
returns g c =
    λ first opened body is written.
    let x = c.write_udata_at.ensures in
    counted_puts c.write_udata_at.result first opened (g.W.Writer.meaning c.args.w.now) (g.W.Writer.meaning c.write_udata_at.new.self) body c.args.self.at (c.len.result - c.args.self.at - 1) is.adds is.at written
    (omega (arith, c.len.ensures, is.at, is.adds.size)) x.fits x.ok x.err
