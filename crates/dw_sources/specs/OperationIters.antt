-- What iteration over the operations of an expression answers.
use Rattle.std.specs.Prelude.{◌≡◌, ◌⊎◌, ◌<◌, length, true, false, Option, Some, None, Result, Ok, Err}
use Rattle.dw_base.specs.declared.common.Encoding.{Encoding}
use Rattle.dw_read.specs.Reading.{Reading, Reads, Refuses, left}
use Rattle.dw_read.specs.declared.value.Expression.{Expression}
use Rattle.dw_read.specs.declared.error.ReadError.{ReadError}
use Rattle.dw_sources.specs.Operations.{Operation}
use Rattle.dw_sources.specs.OperationTable.{operation_at, operation_read}
use Rattle.dw_sources.specs.OperationViews.{operation_of, HoldsParts}
use Rattle.dw_sources.specs.declared.operation.Operation.{Operation as HeldOperation}
use Rattle.dw_sources.specs.declared.operation_iter.OperationIter.{OperationIter}

-- the operations of an expression, from the first on
abbrev pub begins : {R E : Type 0} → Expression R E → Encoding → OperationIter R E
begins x e = record { input = x.0; encoding = e; has_failed = false }

module _ {R E : Type 0} (reading : R → Reading) (old new : OperationIter R E) where
  -- no byte was left, or an error was answered
  abbrev pub IsOver : Type 0
  IsOver = (old.has_failed ≡ true) ⊎ (length (left (reading old.input)) ≡ 0)

  -- the operation at the place is what the grammar reads there, and is passed
  pub record PassesOperation (o : HeldOperation R E) : Type 0 where
    pub went_on : (old.has_failed ≡ false) × (new.has_failed ≡ false)
    pub encoding : new.encoding ≡ old.encoding
    pub operation : Reads Operation (operation_at (reading old.input).is_big old.encoding) (reading old.input) (reading new.input) (operation_of reading o)
    pub parts : HoldsParts reading (reading old.input) o
    pub progress : (reading old.input).place < (reading new.input).place

  -- the grammar reads no operation at the place, for this reason, and iteration ends there
  pub record RefusesOperation (e : ReadError) : Type 0 where
    pub not_over : IsOver → ⊥
    pub kept : new ≡ record old { has_failed = true }
    pub refused : Refuses Operation (operation_at (reading old.input).is_big old.encoding) (operation_read (reading old.input).is_big old.encoding) (reading old.input) e

  -- None at the end and after an error alone; else the operation at the place, or the reason why there is none
  abbrev pub ReadsOperation : Result (Option (HeldOperation R E)) ReadError → Type 0
  ReadsOperation (Ok None) = (new ≡ old) × IsOver
  ReadsOperation (Ok (Some o)) = PassesOperation o
  ReadsOperation (Err e) = RefusesOperation e
