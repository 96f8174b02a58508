-- Lines with expressions, read on the definition.
use Rattle.std.proofs.Common.{◌≡◌, ◌∷◌, [], Some, Ok, Err, codes, refl}
use Rattle.dw_script.specs.declared.change.Change.TheVariants as change
use Rattle.dw_script.specs.declared.command.Command.TheVariants as command
use Rattle.dw_script_fields.specs.declared.expression_step.ExpressionStep.TheVariants as step
use Rattle.dw_script_fields.specs.declared.operation.ScriptOperation.TheVariants as operation
use Rattle.dw_ends.specs.declared.reason.Reason.TheVariants.{UnknownWord}
use Rattle.dw_script_fields.specs.declared.value.Value.TheVariants as value
use Rattle.dw_script_fields.specs.Codes.{attribute_of, opcode_of}
use Rattle.dw_script_fields.specs.Kinds.{kind_of}
use Rattle.dw_script.specs.Lines.{parsed_line}
use Rattle.dw_script_fields.specs.OperationWords.{step_word_of}
use Rattle.dw_script_fields.specs.Steps.{walk}

-- a whole line: a branch back to the first operation
set_location : parsed_line (codes "set 0 1 DW_AT_location exprloc [ op 0x96 bra 0 ]") ≡ Ok (Some (command.Change 0 (change.Set 1 (record { 0 = 2 })
    (value.Exprloc (step.Operation (operation.Simple (record { 0 = 0x96 })) ∷ step.Operation (operation.Branch (Some 0)) ∷ step.Close ∷ [])))))
unfolding parsed_line attribute_of kind_of step_word_of opcode_of walk
set_location = refl

-- a word that begins no operation, behind an expression within
unknown_operation : parsed_line (codes "set 0 1 DW_AT_location exprloc [ entry_value [ fbreg -20 deref_size 4 ] stack_value_is_no_word ]") ≡ Err UnknownWord
unfolding parsed_line attribute_of kind_of step_word_of walk
unknown_operation = refl
