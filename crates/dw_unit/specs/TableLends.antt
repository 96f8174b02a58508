-- What a loan of a unit leaves.
use Rattle.std.specs.Prelude.{ℕ}
use Rattle.std.specs.Borrow.{Lends, MutBor, Fml}
use Rattle.std.specs.Prelude.{List, slice_set}
use Rattle.dw_tree.specs.UnitValue.{UnitValue}
use Rattle.dw_unit.specs.contracts.unit.Unit as unit
use Rattle.dw_unit.specs.contracts.unit_table.UnitTable as table

-- the table ends with the last value of the unit at its place
abbrev pub LendsUnit : MutBor (List UnitValue) → ℕ → MutBor UnitValue → Fml
LendsUnit t i r = Lends table.the_row unit.the_row t r (λ u. slice_set t.now i u)
