use Rattle.std.proofs.Common.{◌≡◌, ◌∙◌, sym, subst, ℕ, List, None, arith}
use Rattle.dw_base.specs.Abbreviations.{Declaration}
use Rattle.dw_base.specs.Abbreviations.{shape_of_code}
use Rattle.dw_read.proofs.Indexed.{pushed_same, pushed_other, not_there}
use Rattle.dw_read.specs.Index.{StandsAt}
use Rattle.dw_read.proofs.abbreviations.Abbreviations.with.Goals.{then-code-place+in_ok-insert, else-code-place}
use Rattle.dw_read.proofs.abbreviations.Abbreviations.with.Goals as goal

pub invariant_of-result : goal.invariant_of-result
invariant_of-result c =
    let items = c.self.inside.declarations.items in
    let a = c.args.abbreviation in
    let none : (i : ℕ) → StandsAt items a.code i → ⊥ = λ i s. not_there items a.code i (subst (λ (l : List Declaration). shape_of_code l a.code ≡ None) (sym c.self.view_is) c.requires) s in (
      elim c.if-code-place.branch [
        | then-code-place+in_ok-insert w ↦ pushed_other items _ a _ _ _ c.code-code.result c.len-place.result c.self.inside.indexed none c.code-code.ensures (c.len-place.ensures ∙ c.self.inside.declarations.ok.0) w.in_ok-insert.ensures.updates c.in_ok-push.ensures.items w.others-is
        | else-code-place w ↦ pushed_same items _ a _ _ c.code-code.result c.len-place.result c.self.inside.indexed none c.code-code.ensures (c.len-place.ensures ∙ c.self.inside.declarations.ok.0) (omega arith) c.in_ok-push.ensures.items w.others-is
      ],
      tt,
    )
