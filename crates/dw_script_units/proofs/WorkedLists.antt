-- Location lists, built on the definition.
use Rattle.std.proofs.Common.{◌≡◌, ◌∷◌, [], Ok, refl}
use Rattle.dw_base.specs.declared.address.Address.TheVariants as address
use Rattle.dw_base.specs.declared.common.Format.TheVariants.{Dwarf32}
use Rattle.dw_expr.specs.Trees.{plain}
use Rattle.dw_expr.specs.Trees as trees
use Rattle.dw_line.specs.LinePrograms.{no_line_program}
use Rattle.dw_lists.specs.declared.location.Location.TheVariants as stored
use Rattle.dw_script_fields.specs.declared.expression_step.ExpressionStep.TheVariants as step
use Rattle.dw_script_fields.specs.declared.location.ScriptLocation.TheVariants as location
use Rattle.dw_script_fields.specs.declared.operation.ScriptOperation.TheVariants as operation
use Rattle.dw_tree.specs.UnitValue.{UnitValue, new_unit}
use Rattle.dw_script_units.specs.LocationLists.{after_location_list, locations_of}

abbrev bare : UnitValue
bare = new_unit (record { address_size = 8; format = Dwarf32; version = 5 }) no_line_program

-- items stand in their order, each with its own expression: `base 0x10 pair 1 2 [ reg 5 ] default [ ]`
in_order : locations_of (
    location.BaseAddress (address.Constant 0x10) ∷ location.OffsetPair 1 2 (step.Operation (operation.Register (record { 0 = 5 })) ∷ step.Close ∷ []) ∷
    location.DefaultLocation (step.Close ∷ []) ∷ []
    ) ≡
    stored.BaseAddress (address.Constant 0x10) ∷ stored.OffsetPair 1 2 (plain (trees.Register (record { 0 = 5 })) ∷ []) ∷ stored.DefaultLocation [] ∷ []
in_order = refl

-- the first list of a unit
first : after_location_list (location.DefaultLocation (step.Close ∷ []) ∷ []) bare ≡ Ok (record bare { locations = (stored.DefaultLocation [] ∷ []) ∷ [] })
first = refl

-- an equal list stands once
equal : after_location_list (location.DefaultLocation (step.Close ∷ []) ∷ []) (record bare { locations = (stored.DefaultLocation [] ∷ []) ∷ [] }) ≡
    Ok (record bare { locations = (stored.DefaultLocation [] ∷ []) ∷ [] })
equal = refl
