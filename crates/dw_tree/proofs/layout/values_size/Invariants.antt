use Rattle.std.proofs.Common.{◌≡◌, ◌+◌, ℕ, drop}
use Rattle.std.specs.Prelude.{Option}
use Rattle.dw_base.specs.declared.error.Error.{Error}
use Rattle.dw_entries.specs.Values.{KeepsPlaces}
use Rattle.dw_tree.specs.Early.{attributes_unplaced}
use Rattle.dw_tree.specs.Laid.{values_size}
use Rattle.dw_tree.specs.Places.{known_at}
use Rattle.dw_tree.proofs.layout.values_size.Given as goal

abbrev pub invariant-loop-attribute : goal.invariant-loop-attribute
invariant-loop-attribute l =
    ((place : ℕ → Option ℕ) → KeepsPlaces (known_at l.places) place → l.size + values_size l.encoding place (drop l.attribute-index l.attributes) ≡ values_size l.encoding place l.attributes)
    × ((err : Error) → attributes_unplaced l.encoding (known_at l.places) (drop l.attribute-index l.attributes) err ≡ attributes_unplaced l.encoding (known_at l.places) l.attributes err)
