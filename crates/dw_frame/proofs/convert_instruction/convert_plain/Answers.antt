use Rattle.std.proofs.Common.{refl}
use Rattle.dw_frame.proofs.convert_instruction.convert_plain.Goals as goal

pub returns-in-SetLoc : goal.returns-in-SetLoc
returns-in-SetLoc g c = rw c.in-SetLoc.is refl

pub returns-in-DefCfaRegister : goal.returns-in-DefCfaRegister
returns-in-DefCfaRegister g c = rw c.in-DefCfaRegister.is refl

pub returns-in-Undefined : goal.returns-in-Undefined
returns-in-Undefined g c = rw c.in-Undefined.is refl

pub returns-in-SameValue : goal.returns-in-SameValue
returns-in-SameValue g c = rw c.in-SameValue.is refl

pub returns-in-Register : goal.returns-in-Register
returns-in-Register g c = rw c.in-Register.is refl

pub returns-in-Restore : goal.returns-in-Restore
returns-in-Restore g c = rw c.in-Restore.is refl

pub returns-in-RememberState : goal.returns-in-RememberState
returns-in-RememberState g c = rw c.in-RememberState.is refl

pub returns-in-RestoreState : goal.returns-in-RestoreState
returns-in-RestoreState g c = rw c.in-RestoreState.is refl

pub returns-in-NegateRaState : goal.returns-in-NegateRaState
returns-in-NegateRaState g c = rw c.in-NegateRaState.is refl
