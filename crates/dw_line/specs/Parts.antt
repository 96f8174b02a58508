-- Texts of several things, one after another, and what calls that write them refuse.
use Rattle.std.specs.Prelude.{◌≡◌, ℕ, ◌+◌, Bool, List, [], ◌∷◌, ◌++◌, length, Some, IsTrue, IsFalse}
use Rattle.dw_base.specs.declared.error.Error.{Error}
use Rattle.dw_base.specs.declared.error.Error.TheVariants.{NoMemory, WriteFault}
use Rattle.dw_writer.specs.Texts.{followed}
use Rattle.dw_writer.specs.Meaning.{Meaning, Model}
use Rattle.dw_writer.specs.Causes.{HasRisen}
use Rattle.dw_writer.specs.declared.relocate.Relocation.{Relocation}

abbrev pub sizes : {X : Type 0} → (X → ℕ) → List X → ℕ
sizes size [] = 0
sizes size (x ∷ xs) = size x + sizes size xs

abbrev pub texts : {X : Type 0} → (X → Model) → List X → Model
texts text [] big l = Some []
texts text (x ∷ xs) big l = followed (text x big l) (texts text xs big l)

-- no cause stands
abbrev pub NoCause : (Error → Bool) → Type 0
NoCause fails = (e : Error) → IsFalse (fails e)

-- for want of memory, by a fault of the writer, or for a cause that stands
abbrev pub Refused : Meaning → Meaning → (Error → Bool) → Error → Type 0
Refused old new fails NoMemory = Unit {0}
Refused old new fails WriteFault = HasRisen old new
Refused old new fails e = IsTrue (fails e)

-- what was there stays in front of what is added, bytes and records, whatever a call answers
pub record KeepsFront (old new : Meaning) : Type 0 where
  pub added : List ℕ
  pub recorded : List Relocation
  pub size : new.size ≡ old.size + length added
  pub told : new.bytes ≡ followed old.bytes (Some added)
  pub records : new.records ≡ old.records ++ recorded
