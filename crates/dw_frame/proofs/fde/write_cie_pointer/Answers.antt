use Rattle.std.specs.Prelude.{◌-◌}
use Rattle.dw_frame.proofs.NumberSteps.{Puts-number}
use Rattle.dw_frame.proofs.fde.write_cie_pointer.Goals as goal

pub returns-in-Eh : goal.returns-in-Eh
returns-in-Eh g c =
    let x = c.write_udata.ensures in
    rw c.in-Eh.is (Puts-number c.write_udata.result (g.W.Writer.meaning c.args.w.now) (g.W.Writer.meaning c.write_udata.new.self) 4 ((g.W.Writer.meaning c.args.w.now).size - c.args.cie_at) (rw c.len.ensures at x.fits) (rw c.len.ensures at x.ok) (rw c.len.ensures at x.err))
