use Rattle.std.proofs.Common.{◌≡◌, ◌∙◌, sym, ap, Bool, false, refl, rules, tests}
use Rattle.std.specs.Prelude.{◌==◌, ◌&&◌, not}
use Rattle.dw_base.specs.declared.constants.TheConstants.{DW_TAG_namespace}
use Rattle.dw_filter.proofs.children.leads_to_child.Goals as goal

-- what is no namespace leads to what doesn't stand apart
leads : (a d : Bool) → a ≡ false → not d ≡ (not a && not d)
leads a d h = sym (rw h refl)

pub returns-then-ne : goal.returns-then-ne
returns-then-ne g c = λ code.
    let other : (c.args.parent.0 == DW_TAG_namespace.0) ≡ false = search (rules, tests) in
    ap not (c.stands_apart.ensures code) ∙ leads _ _ other
