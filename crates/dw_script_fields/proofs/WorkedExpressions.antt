-- Expressions, read on the definition.
use Rattle.std.proofs.Common.{◌≡◌, ◌∷◌, [], negsuc, Some, None, false, Ok, Err, ℕ, zero, suc, codes, refl}
use Rattle.dw_script_fields.specs.declared.expression_step.ExpressionStep.TheVariants as step
use Rattle.dw_script_fields.specs.declared.operation.ScriptOperation.TheVariants as operation
use Rattle.dw_ends.specs.declared.reason.Reason.TheVariants.{UnknownWord, WrongFields, TooDeep, BadTarget}
use Rattle.dw_script_fields.specs.Codes.{opcode_of}
use Rattle.dw_script_fields.specs.Expressions.{expression_field}
use Rattle.dw_ends.specs.Fields.{Fields}
use Rattle.dw_script_fields.specs.OperationWords.{step_word_of}
use Rattle.dw_ends.specs.Pieces.{pieces, space}
use Rattle.dw_script_fields.specs.Steps.{walk}
use Rattle.hex.specs.Hex.{decode_pairs}

-- an expression within, and what is left after both
within : expression_field (pieces space (codes "[ entry_value [ breg 7 -8 ] op DW_OP_stack_value ] x")) ≡
    Ok (step.Open ∷ step.Operation (operation.RegisterOffset (record { 0 = 7 }) (negsuc 7)) ∷ step.Close ∷ step.Operation (operation.Simple (record { 0 = 0x9f })) ∷ step.Close ∷ [], codes "x" ∷ [])
unfolding step_word_of opcode_of walk
within = refl

-- operations that are spelled already stand first, also within
raw_within : expression_field (pieces space (codes "[ deref entry_value [ raw 30 ] ]")) ≡
    Ok (step.Operation (operation.Deref false) ∷ step.Open ∷ step.Operation (operation.Raw (0x30 ∷ [])) ∷ step.Close ∷ step.Close ∷ [], [])
unfolding step_word_of walk decode_pairs
raw_within = refl

raw_later : expression_field (pieces space (codes "[ entry_value [ raw 30 ] raw 30 ]")) ≡ Err UnknownWord
unfolding step_word_of walk decode_pairs
raw_later = refl

-- a branch to the end, past it, to itself, and to nothing
to_the_end : expression_field (pieces space (codes "[ skip 1 ]")) ≡ Ok (step.Operation (operation.Skip (Some 1)) ∷ step.Close ∷ [], [])
unfolding step_word_of walk
to_the_end = refl

past_the_end : expression_field (pieces space (codes "[ skip 2 ]")) ≡ Err BadTarget
unfolding step_word_of walk
past_the_end = refl

to_itself : expression_field (pieces space (codes "[ deref bra 1 deref ]")) ≡ Err BadTarget
unfolding step_word_of walk
to_itself = refl

to_nothing : expression_field (pieces space (codes "[ bra - ]")) ≡ Ok (step.Operation (operation.Branch None) ∷ step.Close ∷ [], [])
unfolding step_word_of walk
to_nothing = refl

-- a wrong target comes before later fields, but only at the `]` of its own expression
target_first : expression_field (pieces space (codes "[ entry_value [ bra 5 ] frob ]")) ≡ Err BadTarget
unfolding step_word_of walk
target_first = refl

target_later : expression_field (pieces space (codes "[ bra 5 entry_value [ frob ] ]")) ≡ Err UnknownWord
unfolding step_word_of walk
target_later = refl

-- so many expressions within each other
opened : ℕ → Fields → Fields
opened zero rest = rest
opened (suc depth) rest = codes "[" ∷ codes "entry_value" ∷ opened depth rest

-- the bracket of the 65th is refused before what follows it
too_deep : expression_field (opened 64 (codes "[" ∷ codes "frob" ∷ [])) ≡ Err TooDeep
unfolding step_word_of walk opened
too_deep = refl

deep : expression_field (opened 63 (codes "[" ∷ codes "frob" ∷ [])) ≡ Err UnknownWord
unfolding step_word_of walk opened
deep = refl

-- where an expression must stand
no_bracket : expression_field (codes "deref" ∷ []) ≡ Err UnknownWord
no_bracket = refl

no_field : expression_field [] ≡ Err WrongFields
no_field = refl
