use Rattle.std.proofs.Common.{◌∙◌, sym, ap}
use Rattle.dw_abbrev.specs.Codes.{code_in, with_shape}
use Rattle.dw_abbrev.proofs.CodeLaws.{found_code}
use Rattle.dw_abbrev.proofs.table.AbbreviationTable.code_of.Goals as goal

pub returns-clause-code : goal.returns-clause-code
returns-clause-code c =
    (found_code c.self.inside.abbreviations.keys c.args.«abbrev».now c.in_ok-index.index c.in_ok-index.ensures.index).0 ∙ ap (λ xs. code_in xs c.args.«abbrev».now) c.self.view_is

pub returns-clause-there : goal.returns-clause-there
returns-clause-there c =
    ap (λ xs. with_shape xs c.args.«abbrev».now) (sym c.self.view_is) ∙ (found_code c.self.inside.abbreviations.keys c.args.«abbrev».now c.in_ok-index.index c.in_ok-index.ensures.index).1 ∙ c.self.view_is
