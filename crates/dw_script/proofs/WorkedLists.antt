-- Lines that add lists to units, read on the definition.
use Rattle.std.proofs.Common.{◌≡◌, ◌∷◌, ◌-◌, [], negsuc, false, Some, Ok, Err, codes, refl}
use Rattle.dw_base.specs.declared.address.Address.TheVariants as address
use Rattle.dw_script.specs.declared.command.Command.TheVariants as command
use Rattle.dw_script_fields.specs.declared.expression_step.ExpressionStep.TheVariants as step
use Rattle.dw_script_fields.specs.declared.location.ScriptLocation.TheVariants as location
use Rattle.dw_script_fields.specs.declared.operation.ScriptOperation.TheVariants as operation
use Rattle.dw_script_fields.specs.declared.range.ScriptRange.TheVariants as range
use Rattle.dw_ends.specs.declared.reason.Reason.TheVariants.{UnknownWord, BadNumber, BadTarget, WrongFields}
use Rattle.dw_script_fields.specs.Items.{items_up_to}
use Rattle.dw_script.specs.Lines.{parsed_line}
use Rattle.dw_script_fields.specs.LocationWords.{location_word_of}
use Rattle.dw_script_fields.specs.OperationWords.{step_word_of}
use Rattle.dw_script_fields.specs.RangeWords.{range_word_of}
use Rattle.dw_script_fields.specs.Steps.{walk}

-- an item of each word, in their order, for unit 1
ranges : parsed_line (codes "range 1 base 0x1000 pair 1 2 ends sym:0:-1 0x10 len 4 0x20") ≡ Ok (Some (command.RangeList 1
    (range.BaseAddress (address.Constant 0x1000) ∷ range.OffsetPair 1 2 ∷ range.StartEnd (address.Symbol 0 (negsuc 0)) (address.Constant 16) ∷ range.StartLength (address.Constant 4) 32 ∷ [])))
unfolding parsed_line range_word_of items_up_to
ranges = refl

-- a list has an item
no_ranges : parsed_line (codes "range 0") ≡ Err WrongFields
unfolding parsed_line
no_ranges = refl

-- a word that begins no item, behind one
unknown_range : parsed_line (codes "range 0 pair 1 2 default") ≡ Err UnknownWord
unfolding parsed_line range_word_of items_up_to
unknown_range = refl

-- the leftmost cause is the one given
no_number : parsed_line (codes "range 0 len 0x10 x frob") ≡ Err BadNumber
unfolding parsed_line range_word_of items_up_to
no_number = refl

-- the last item is cut short
no_end : parsed_line (codes "range 0 base 0 ends 1") ≡ Err WrongFields
unfolding parsed_line range_word_of items_up_to
no_end = refl

-- an item of each word, in their order: an expression behind each but the base
locations : parsed_line (codes "loc 1 base 0x1000 pair 1 2 [ reg 5 ] ends sym:0:-1 0x10 [ ] len 4 0x20 [ deref ] default [ ]") ≡ Ok (Some (command.LocationList 1
    (location.BaseAddress (address.Constant 0x1000) ∷ location.OffsetPair 1 2 (step.Operation (operation.Register (record { 0 = 5 })) ∷ step.Close ∷ [])
    ∷ location.StartEnd (address.Symbol 0 (negsuc 0)) (address.Constant 16) (step.Close ∷ []) ∷ location.StartLength (address.Constant 4) 32 (step.Operation (operation.Deref false) ∷ step.Close ∷ [])
    ∷ location.DefaultLocation (step.Close ∷ []) ∷ [])))
unfolding parsed_line location_word_of items_up_to walk step_word_of
locations = refl

-- a base has no expression, and all others have one
no_expression : parsed_line (codes "loc 0 base 0 [ ]") ≡ Err UnknownWord
unfolding parsed_line location_word_of items_up_to
no_expression = refl

no_bracket : parsed_line (codes "loc 0 pair 1 2") ≡ Err WrongFields
unfolding parsed_line location_word_of items_up_to
no_bracket = refl

-- a wrong target comes where its expression ends, before what is wrong behind it
location_target : parsed_line (codes "loc 0 default [ skip 0 ] pair x") ≡ Err BadTarget
unfolding parsed_line location_word_of items_up_to walk step_word_of
location_target = refl
