-- What the operands of a unit lead to, as the code keeps it.
use Rattle.dw_entries.specs.Targets.{Tables, UnitTargets}
use Rattle.dw_tree.specs.Elsewhere.{tables_in}
use Rattle.dw_tree.specs.Places.{Placement, placement_of, targets_of}
use Rattle.dw_tree.specs.declared.targets.Targets.{Targets}

abbrev pub tables_at : Targets → Tables
tables_at t = tables_in t.own.now t.line_strings.now t.strings.now

abbrev pub placement_at : Targets → Placement
placement_at t = placement_of t.places.now

abbrev pub targets_at : Targets → UnitTargets
targets_at t = targets_of (tables_at t) (placement_at t)
