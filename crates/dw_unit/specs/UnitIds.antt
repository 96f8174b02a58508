-- The units of a table with the ids that name them.
use Rattle.std.specs.Prelude.{ℕ, suc, List, [], ◌∷◌}
use Rattle.dw_tree.specs.UnitValue.{UnitValue}

pub record UnitWithId : Type 0 where
  pub id : ℕ
  pub unit : UnitValue

-- in the order of their ids, the first of which is this one
abbrev pub with_ids_from : ℕ → List UnitValue → List UnitWithId
with_ids_from n [] = []
with_ids_from n (u ∷ us) = record { id = n; unit = u } ∷ with_ids_from (suc n) us

abbrev pub with_ids : List UnitValue → List UnitWithId
with_ids us = with_ids_from 0 us
