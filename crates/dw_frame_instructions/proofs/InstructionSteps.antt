-- What writes of instructions come to.
use Rattle.std.specs.Prelude.{◌≡◌, Bool, false, Option, Some, None, ℤ, Result, IsTrue, refl}
use Rattle.std.proofs.Common.{sym, subst}
use Rattle.dw_base.specs.declared.common.Encoding.{Encoding}
use Rattle.dw_base.specs.declared.error.Error.{Error}
use Rattle.dw_base.specs.declared.error.Error.TheVariants as errors
use Rattle.dw_expr.specs.Places.{Refused}
use Rattle.dw_writer.specs.Meaning.{Meaning}
use Rattle.dw_frame_instructions.specs.declared.instruction.CallFrameInstruction.{CallFrameInstruction}
use Rattle.dw_frame_instructions.specs.Instructions.{Spelling, spelled, spelling_piece, spelling_fails, factor_fails, offset_of, instruction_piece, instruction_fails}
use Rattle.dw_frame_instructions.specs.Causes.{Writes, either}
use Rattle.dw_frame_instructions.proofs.Steps.{refused_first, cause_refused}

-- an instruction is written as its spelling
pub Writes-spelled : {T : Type 0} (r : Result T Error) (a b : Meaning) (e : Encoding) (factor : ℤ) (plain : Bool) (i : CallFrameInstruction) (s : Spelling) → spelled factor i ≡ Some s →
    Writes r a b (spelling_piece e (Some s)) (spelling_fails e plain (Some s)) → Writes r a b (instruction_piece e factor i) (instruction_fails e factor plain i)
Writes-spelled r a b e factor plain i s is h =
    let P : Option Spelling → Type 0 = λ o. Writes r a b (spelling_piece e o) (either (factor_fails o (offset_of i)) (spelling_fails e plain o)) in
    subst P (sym is) h

factor_quiet : (s : Option Spelling) (o : Option ℤ) → factor_fails s o errors.WriteFault ≡ false
factor_quiet None o = refl
factor_quiet (Some s) o = refl

-- an instruction without a spelling
pub spelling_refused : (m : Meaning) (e : Encoding) (factor : ℤ) (plain : Bool) (i : CallFrameInstruction) (why : Error) → IsTrue (factor_fails (spelled factor i) (offset_of i) why) → Refused m m (instruction_fails e factor plain i) why
spelling_refused m e factor plain i why h =
    let f : Error → Bool = factor_fails (spelled factor i) (offset_of i) in
    refused_first m m f (spelling_fails e plain (spelled factor i)) why (cause_refused m m f (factor_quiet (spelled factor i) (offset_of i)) why h)
