use Rattle.std.proofs.Common.{◌≡◌, ◌∙◌, sym, ap, Bool, true, false, refl, rules, tests}
use Rattle.std.specs.Prelude.{◌==◌, ◌&&◌, ◌||◌, not}
use Rattle.dw_base.specs.declared.constants.TheConstants.{DW_TAG_subprogram}
use Rattle.dw_filter.proofs.children.stands_apart.Goals as goal

-- a function stands apart where it is no declaration
apart : (a b d : Bool) → a ≡ false → b ≡ true → not d ≡ (a || (b && not d))
apart a b d h i = sym (rw (h, i) refl)

pub returns-then-eq : goal.returns-then-eq
returns-then-eq g c = λ code.
    let function : (c.args.child.now.tag.0 == DW_TAG_subprogram.0) ≡ true = search (rules, tests) in
    ap not (c.is_declaration.ensures code) ∙ apart _ _ _ (sym c.is_apart_tag.ensures ∙ c.if-is_apart_tag.false) function
