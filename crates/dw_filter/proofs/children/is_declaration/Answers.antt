use Rattle.std.proofs.Common.{◌≡◌, ◌∙◌, ap, List, [], ◌∷◌, map, Bool, refl, rules, tests}
use Rattle.std.specs.Prelude.{◌==◌, ◌||◌}
use Rattle.std.specs.List.{list_any}
use Rattle.std.proofs.lemmas.Iterator.{YieldsList-from_slice}
use Rattle.std.proofs.lemmas.Iterator.Search.{any_from_yields_List}
use Rattle.dw_base.specs.Entries.{ReadAttribute}
use Rattle.dw_base.specs.declared.constants.TheConstants.{DW_AT_declaration}
use Rattle.dw_read.specs.Attributes.{attribute_of}
use Rattle.dw_read.specs.Reading.{Reading}
use Rattle.dw_read.specs.declared.attribute.Attribute.{Attribute}
use Rattle.dw_filter.proofs.children.is_declaration.Goals as goal

any_read : {R E : Type 0} (reading : R → Reading) (xs : List (Attribute R E)) → list_any (λ (a : Attribute R E). a.name.0 == DW_AT_declaration.0) xs ≡ list_any (λ (a : ReadAttribute). a.name == DW_AT_declaration.0) (map (attribute_of reading) xs)
any_read reading [] = refl
any_read reading (x ∷ xs) = ap (λ (b : Bool). (x.name.0 == DW_AT_declaration.0) || b) (any_read reading xs)

pub returns : goal.returns
returns g c = λ code.
    any_from_yields_List (λ a. a.name.0 == DW_AT_declaration.0) _ _ c.any.result c.any.ensures.ran (YieldsList-from_slice c.deref.result.now cc) (λ x b q k. search (rules, tests))
    ∙ any_read g.R.Reader.reading c.deref.result.now
    ∙ ap (λ (xs : List (Attribute _ _)). list_any (λ (a : ReadAttribute). a.name == DW_AT_declaration.0) (map (attribute_of g.R.Reader.reading) xs)) c.deref.ensures.value
