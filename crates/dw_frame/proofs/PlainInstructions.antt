-- What an instruction without an expression becomes.
use Rattle.std.specs.Prelude.{◌≡◌, ◌⊎◌, ℕ, Bool, Option, Ok, Err, IfOk, IfErr, ℤ, refl}
use Rattle.std.proofs.Common.{inr}
use Rattle.dw_base.specs.declared.address.Address.{Address}
use Rattle.dw_base.specs.declared.common.Encoding.{Encoding}
use Rattle.dw_base.specs.declared.common.Register.{Register}
use Rattle.dw_read.specs.Reading.{Reading}
use Rattle.dw_read.specs.declared.value.Expression.{Expression}
use Rattle.dw_read_frames.specs.InstructionViews.{instruction_of}
use Rattle.dw_read_frames.specs.declared.instruction.CallFrameInstruction.{CallFrameInstruction as Held}
use Rattle.dw_read_frames.specs.declared.instruction.CallFrameInstruction.TheVariants as held
use Rattle.dw_sources.specs.declared.convert_error.ConvertError.TheVariants.{NoMemory}
use Rattle.dw_frame.specs.ConvertInstructions.{Kept, InstructionOutcome, plain}

-- none of the three that have an expression
pub record HasNone (R E : Type 0) (o : Held R E) : Type 0 where
  pub frame : (x : Expression R E) → o ≡ held.DefCfaExpression x → ⊥
  pub saved : (r : Register) (x : Expression R E) → o ≡ held.Expression r x → ⊥
  pub valued : (r : Register) (x : Expression R E) → o ≡ held.ValExpression r x → ⊥

outcome_of : (R E : Type 0) (reading : R → Reading) (answers : ℕ → Option Address → Type 0) (big : Bool) (e : Encoding) (factor : ℤ) (o : Held R E) (r : Kept) → HasNone R E o →
    r ≡ plain factor (instruction_of reading o) → InstructionOutcome answers big e factor (instruction_of reading o) r
outcome_of R E reading answers big e factor (held.DefCfaExpression x) r none h = absurd (none.frame x refl)
outcome_of R E reading answers big e factor (held.Expression n x) r none h = absurd (none.saved n x refl)
outcome_of R E reading answers big e factor (held.ValExpression n x) r none h = absurd (none.valued n x refl)
outcome_of R E reading answers big e factor o r none h = h

ok_of : (r : Kept) (P : Kept → Type 0) → P r → IfOk r (λ x. P (Ok x))
ok_of (Ok x) P h = h
ok_of (Err e) P h = tt

err_of : (r : Kept) (P : Kept → Type 0) → P r → IfErr r (λ e. (e ≡ NoMemory) ⊎ P (Err e))
err_of (Ok x) P h = tt
err_of (Err e) P h = inr h

module _ (R E : Type 0) (reading : R → Reading) (answers : ℕ → Option Address → Type 0) (big : Bool) (e : Encoding) (factor : ℤ) (o : Held R E) (r : Kept) (none : HasNone R E o) (is : r ≡ plain factor (instruction_of reading o)) where
  pub plain_becomes : IfOk r (λ x. InstructionOutcome answers big e factor (instruction_of reading o) (Ok x))
  plain_becomes = ok_of r (InstructionOutcome answers big e factor (instruction_of reading o)) (outcome_of R E reading answers big e factor o r none is)

  pub plain_refused : IfErr r (λ x. (x ≡ NoMemory) ⊎ InstructionOutcome answers big e factor (instruction_of reading o) (Err x))
  plain_refused = err_of r (InstructionOutcome answers big e factor (instruction_of reading o)) (outcome_of R E reading answers big e factor o r none is)
