use Rattle.std.proofs.Common.{not, refl, rules}
use Rattle.std.proofs.lemmas.List.Elements.{filter_from_retain}
use Rattle.dw_sources.specs.Dropped.{is_left_out}
use Rattle.dw_dwarf.proofs.convert.unit_entry.ConvertUnitEntry.filter_attributes.Goals as goal

pub returns : goal.returns
returns g c = record {
  less = record {
    offset = refl;
    depth = refl;
    tag = refl;
    has_children = refl;
    attributes = filter_from_retain _ (λ a. not (is_left_out a.name.0)) (λ p x b q r. search rules) _ _ _ c.retain.ensures.filtered;
    sibling = c.names_sibling-self.ensures;
  };
  read_unit = refl;
  parent = refl;
}
