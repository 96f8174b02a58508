use Rattle.std.proofs.Common.{◌≡◌, ◌∙◌, refl, true, false}
use Rattle.dw_read.proofs.Indexed.{no_place}
use Rattle.dw_read.proofs.abbreviations.Abbreviations.place_of.Goals as goal

pub returns-clause-none : goal.returns-clause-none
returns-clause-none c = no_place c.self.inside.declarations.items c.args.self.now c.self.inside.others c.args.code _ c.copied.result c.self.view_is c.self.inside.indexed (c.copied.ensures ∙ c.get.ensures.value) (λ s. let t : false ≡ true = c.if-stands_at.ensures.1 s in cc) c.ranges.code.fits refl
