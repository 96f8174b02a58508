-- What is generated wasn't written before.
use Rattle.std.proofs.Common.{refl, arith, ℕ, zero, suc, ◌+◌, ◌-◌, ◌*◌, ◌/◌, [], ◌∷◌}
use Rattle.std.specs.Prelude.{All, min}
use Rattle.std.proofs.lemmas.List.Elements.{All-append}
use Rattle.dw_dwarf.specs.Valid.{IsUnwritten, AreUnwritten}
use Rattle.dw_build.specs.Generated.{generated, generated_unit, generated_units, unit_variables}

one_unwritten : (from n : ℕ) → All IsUnwritten (generated_unit from n ∷ [])
one_unwritten from n zero d within = refl
one_unwritten from n (suc k) d within = absurd (omega arith)

units_unwritten : (n k : ℕ) → All IsUnwritten (generated_units n k)
units_unwritten n zero = λ i d within. absurd (omega arith)
units_unwritten n (suc k) =
    All-append IsUnwritten (generated_units n k) (generated_unit (k * unit_variables) (min unit_variables (n - k * unit_variables)) ∷ []) (units_unwritten n k) (one_unwritten (k * unit_variables) (min unit_variables (n - k * unit_variables)))

pub generated_unwritten : (n : ℕ) → AreUnwritten (generated n)
generated_unwritten n = units_unwritten n (n / unit_variables + 1)
