-- Copies of operations.
use Rattle.std.specs.Prelude.{◌≡◌, IsTrue, refl}
use Rattle.dw_base.specs.declared.ids.UnitEntryId.{UnitEntryId}
use Rattle.dw_writer.specs.declared.bytes.Bytes.{Bytes}
use Rattle.dw_expr.specs.Views.{owns_nothing}
use Rattle.dw_expr.specs.declared.op.Expression.{Expression}
use Rattle.dw_expr.specs.declared.op.Operation.{Operation}
use Rattle.dw_expr.specs.declared.op.Operation.TheVariants as ops

-- what neither bytes nor an expression belong to, by what it isn't
pub owns_nothing-other : (o : Operation) → ((b : Bytes) → o ≡ ops.Raw b → ⊥) → ((i : UnitEntryId) (b : Bytes) → o ≡ ops.ConstantType i b → ⊥) → ((b : Bytes) → o ≡ ops.ImplicitValue b → ⊥) → ((x : Expression) → o ≡ ops.EntryValue x → ⊥) → IsTrue (owns_nothing o)
owns_nothing-other (ops.Raw b) raw constant implicit entry = absurd (raw b refl)
owns_nothing-other (ops.ConstantType i b) raw constant implicit entry = absurd (constant i b refl)
owns_nothing-other (ops.ImplicitValue b) raw constant implicit entry = absurd (implicit b refl)
owns_nothing-other (ops.EntryValue x) raw constant implicit entry = absurd (entry x refl)
owns_nothing-other o raw constant implicit entry = refl
