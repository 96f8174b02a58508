-- What expressions become, with the expressions within them.
use Rattle.std.specs.Prelude.{◌≡◌, ◌≢◌, ◌⊎◌, ℕ, zero, suc, Bool, List, ◌∷◌, ◌++◌, length, Option, Result, Ok, Err}
use Rattle.std.specs.List.{AllZip}
use Rattle.dw_base.specs.declared.address.Address.{Address}
use Rattle.dw_base.specs.declared.address.DebugInfoRef.{DebugInfoRef}
use Rattle.dw_base.specs.declared.common.Encoding.{Encoding}
use Rattle.dw_base.specs.declared.ids.UnitEntryId.{UnitEntryId}
use Rattle.dw_expr.specs.Trees.{Node}
use Rattle.dw_read.specs.declared.error.ReadError.{ReadError}
use Rattle.dw_sources.specs.ConvertErrors.{from_read}
use Rattle.dw_sources.specs.OperationTable.{operation_at, operation_read}
use Rattle.dw_sources.specs.declared.convert_error.ConvertError.{ConvertError}
use Rattle.dw_convert.specs.Lists.{First}
use Rattle.dw_convert.specs.Operations.{OperationOutcome}
use Rattle.dw_convert.specs.Steps.{Step, step_at, AreSteps, begins}

-- behind the first operations of an expression stands one that can't be read, for this reason
pub record MissesOperation (big : Bool) (e : Encoding) (bytes : List ℕ) (reason : ConvertError) : Type 0 where
  pub steps : List Step
  pub rest : List ℕ
  pub read : First (step_at (operation_at big e) (length bytes)) bytes steps rest
  pub more : length rest ≢ 0
  pub error : ReadError
  pub refused : operation_read big e rest ≡ Err error
  pub is : reason ≡ from_read error

module _ (answers : ℕ → Option Address → Type 0) (addresses : ℕ → Result ℕ ConvertError) (entries : ℕ → Option UnitEntryId) (infos : ℕ → Option DebugInfoRef) (e : Encoding) (Nested : List ℕ → Result (List Node) ConvertError → Type 0) where
  -- each operation becomes the other of its place, where operations begin at these
  abbrev pub AreOperations : List ℕ → List Step → List Node → Type 0
  AreOperations places steps nodes = AllZip (λ s n. OperationOutcome answers addresses entries infos e Nested places s.behind s.operation (Ok n)) steps nodes

  -- all operations are read, and each becomes another
  pub record Becomes (big : Bool) (bytes : List ℕ) (nodes : List Node) : Type 0 where
    pub steps : List Step
    pub read : AreSteps (operation_at big e) bytes steps
    pub are : AreOperations (begins steps) steps nodes

  -- the operations in front become others, and the next one becomes nothing, for this reason
  pub record RefusesStep (steps : List Step) (reason : ConvertError) : Type 0 where
    pub front : List Step
    pub step : Step
    pub back : List Step
    pub nodes : List Node
    pub is : steps ≡ front ++ step ∷ back
    pub before : AreOperations (begins steps) front nodes
    pub refused : OperationOutcome answers addresses entries infos e Nested (begins steps) step.behind step.operation (Err reason)

  -- all operations are read, and one of them becomes nothing
  pub record RefusesOperation (big : Bool) (bytes : List ℕ) (reason : ConvertError) : Type 0 where
    pub steps : List Step
    pub read : AreSteps (operation_at big e) bytes steps
    pub refused : RefusesStep steps reason

  -- what an expression becomes where those within it become what `Nested` says
  abbrev pub LevelOutcome : Bool → List ℕ → Result (List Node) ConvertError → Type 0
  LevelOutcome big bytes (Ok nodes) = Becomes big bytes nodes
  LevelOutcome big bytes (Err reason) = MissesOperation big e bytes reason ⊎ RefusesOperation big bytes reason

module _ (answers : ℕ → Option Address → Type 0) (addresses : ℕ → Result ℕ ConvertError) (entries : ℕ → Option UnitEntryId) (infos : ℕ → Option DebugInfoRef) (big : Bool) (e : Encoding) where
  -- the same where it and those within it stand at most so deep
  abbrev pub OutcomeWithin : ℕ → List ℕ → Result (List Node) ConvertError → Type 0
  OutcomeWithin zero bytes r = ⊥
  OutcomeWithin (suc depth) bytes r = LevelOutcome answers addresses entries infos e (OutcomeWithin depth) big bytes r

  -- what an expression becomes, however deep others stand within it
  abbrev pub ExpressionOutcome : List ℕ → Result (List Node) ConvertError → Type 0
  ExpressionOutcome bytes r = (depth : ℕ) × OutcomeWithin depth bytes r
