use Rattle.dw_read.proofs.Indexed.{finds, shape_none}
use Rattle.dw_read.proofs.abbreviations.Abbreviations.get.Goals as goal

pub returns-in_err-place : goal.returns-in_err-place
returns-in_err-place c = rw c.from_residual.ensures (shape_none c.args.self.now c.args.code c.in_err-place.ensures.none)

pub returns : goal.returns
returns c = finds c.self.inside.declarations.items c.args.self.now c.self.inside.others c.in_ok-place.place c.args.code c.index.result.now c.self.view_is c.self.inside.indexed c.in_ok-place.ensures.found c.index.ensures
