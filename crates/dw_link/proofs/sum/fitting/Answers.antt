use Rattle.dw_writer.proofs.Plain.{num-shown}
use Rattle.dw_link.proofs.Sums.{num-none}
use Rattle.dw_link.proofs.sum.fitting.Goals as goal

pub returns-then-fits : goal.returns-then-fits
returns-then-fits c =
    let fit = c.fits.ensures.0 c.if-fits.true in
    (fit, λ big. num-shown big c.args.size c.args.number c.requires fit)

pub returns-else-fits : goal.returns-else-fits
returns-else-fits c = λ big. num-none big c.args.size c.args.number (λ h. let t = c.fits.ensures.1 h in cc)
