-- Expressions, built on the definition.
use Rattle.std.proofs.Common.{◌≡◌, ◌∷◌, [], negsuc, true, None, Some, refl}
use Rattle.dw_base.specs.declared.address.DebugInfoRef.TheVariants.{Entry}
use Rattle.dw_entries.specs.declared.value.AttributeValue.TheVariants as stored
use Rattle.dw_expr.specs.Trees.{plain, entry_value, nothing, before}
use Rattle.dw_expr.specs.Trees as trees
use Rattle.dw_script_fields.specs.declared.expression_step.ExpressionStep.TheVariants as step
use Rattle.dw_script_fields.specs.declared.operation.ScriptOperation.TheVariants as operation
use Rattle.dw_script_fields.specs.declared.value.Value.TheVariants as value
use Rattle.dw_script_units.specs.Expressions.{expression_of}
use Rattle.dw_script_units.specs.Changes.{attribute_value}

-- no operations: `[ ]`
none : expression_of (step.Close ∷ []) ≡ []
none = refl

-- operations stand in their order: `[ op 0x96 bra 0 ]`
in_order : expression_of (step.Operation (operation.Simple (record { 0 = 0x96 })) ∷ step.Operation (operation.Branch (Some 0)) ∷ step.Close ∷ []) ≡
    plain (trees.Simple (record { 0 = 0x96 })) ∷ plain (trees.Branch (Some 0)) ∷ []
in_order = refl

-- an expression within stands behind what is before it, and before what is behind it: `[ pick 3 entry_value [ breg 7 -8 xderef ] op DW_OP_stack_value ]`
within : expression_of (
    step.Operation (operation.Pick 3) ∷ step.Open ∷ step.Operation (operation.RegisterOffset (record { 0 = 7 }) (negsuc 7)) ∷ step.Operation (operation.Deref true) ∷ step.Close ∷
    step.Operation (operation.Simple (record { 0 = 0x9f })) ∷ step.Close ∷ []
    ) ≡
    plain (trees.Pick 3) ∷
    entry_value (before (plain (trees.RegisterOffset (record { 0 = 7 }) (negsuc 7))) (before (plain (trees.Deref true)) nothing)) ∷
    plain (trees.Simple (record { 0 = 0x9f })) ∷ []
within = refl

-- two within each other, and one beside them: `[ entry_value [ entry_value [ reg 5 ] convert none ] entry_value [ ] ]`
around : expression_of (
    step.Open ∷ step.Open ∷ step.Operation (operation.Register (record { 0 = 5 })) ∷ step.Close ∷ step.Operation (operation.Convert None) ∷ step.Close ∷
    step.Open ∷ step.Close ∷ step.Close ∷ []
    ) ≡
    entry_value (before (entry_value (before (plain (trees.Register (record { 0 = 5 }))) nothing)) (before (plain (trees.Convert None)) nothing)) ∷
    entry_value nothing ∷ []
around = refl

-- entries are named by their numbers: `exprloc [ xderef_type 2 1 reinterpret 4 implicit_pointer 0:3 -1 ]`
entries : attribute_value (value.Exprloc (
    step.Operation (operation.DerefType true 2 1) ∷ step.Operation (operation.Reinterpret (Some 4)) ∷
    step.Operation (operation.ImplicitPointer (Entry (record { 0 = 0 }) (record { 0 = 3 })) (negsuc 0)) ∷ step.Close ∷ []
    )) ≡
    stored.Exprloc (
    plain (trees.DerefType true 2 (record { 0 = 1 })) ∷ plain (trees.Reinterpret (Some (record { 0 = 4 }))) ∷
    plain (trees.ImplicitPointer (Entry (record { 0 = 0 }) (record { 0 = 3 })) (negsuc 0)) ∷ []
    )
entries = refl
