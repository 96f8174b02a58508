use Rattle.std.proofs.Common.{◌≡◌, ◌∙◌, sym, ap, subst, ◌+◌, ◌<◌, length, slice_index_or, arith}
use Rattle.dw_abbrev.specs.EqualLaws.{shape_Decides}
use Rattle.dw_abbrev.specs.Codes.{code_in, with_shape}
use Rattle.dw_abbrev.proofs.CodeLaws.{code_at_place}
use Rattle.dw_abbrev.proofs.table.AbbreviationTable.code_again.Goals as goal

found : (c : goal.Then-eq) → (c.in_ok-place.place + 1 ≡ code_in c.self.inside.abbreviations.keys c.args.«abbrev».now) × (with_shape c.self.inside.abbreviations.keys c.args.«abbrev».now ≡ c.self.inside.abbreviations.keys)
found c =
    let keys = c.self.inside.abbreviations.keys in
    let s = c.args.«abbrev».now in
    let again = c.index-abbreviations-place.result in
    let same : again ≡ s = (shape_Decides again s).0 (sym c.eq.ensures ∙ c.if-eq.true) in
    let within : c.in_ok-place.place < length keys = subst (λ xs. c.in_ok-place.place < length xs) c.as_slice-abbreviations.ensures.keys c.if-place-abbreviations.true in
    let there : slice_index_or keys c.in_ok-place.place s ≡ s =
    subst (λ x. slice_index_or keys c.in_ok-place.place x ≡ x) same
    (ap (λ xs. slice_index_or xs c.in_ok-place.place again) (sym c.as_slice-abbreviations.ensures.keys) ∙ sym c.index-abbreviations-place.is) in
    code_at_place keys s c.in_ok-place.place c.self.invariant within there

pub returns-then-eq-clause-code : goal.returns-then-eq-clause-code
returns-then-eq-clause-code c =
    let sum : c.self.inside.last ≡ c.in_ok-place.place + 1 = grind arith in
    sum ∙ (found c).0 ∙ ap (λ xs. code_in xs c.args.«abbrev».now) c.self.view_is

pub returns-then-eq-clause-there : goal.returns-then-eq-clause-there
returns-then-eq-clause-there c =
    ap (λ xs. with_shape xs c.args.«abbrev».now) (sym c.self.view_is) ∙ (found c).1 ∙ c.self.view_is
