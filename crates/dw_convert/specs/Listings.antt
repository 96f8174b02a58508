-- What is kept of an expression while it is converted.
use Rattle.std.specs.Prelude.{◌≡◌, ℕ, Bool, true, false, List, [], map, All, Option, None, Result, Ok, Err}
use Rattle.std.specs.List.Sorted.{IsNonDecreasing}
use Rattle.dw_base.specs.declared.address.Address.{Address}
use Rattle.dw_base.specs.declared.address.DebugInfoRef.{DebugInfoRef}
use Rattle.dw_base.specs.declared.common.Encoding.{Encoding}
use Rattle.dw_base.specs.declared.ids.UnitEntryId.{UnitEntryId}
use Rattle.dw_expr.specs.Trees.{Node}
use Rattle.dw_expr.specs.Views.{node_of}
use Rattle.dw_expr.specs.declared.op.Operation.{Operation as BuiltOperation}
use Rattle.dw_read.specs.Reading.{Reading, left}
use Rattle.dw_sources.specs.OperationTable.{operation_at}
use Rattle.dw_sources.specs.OperationViews.{operation_of}
use Rattle.dw_sources.specs.declared.convert_error.ConvertError.{ConvertError}
use Rattle.dw_sources.specs.declared.convert_error.ConvertError.TheVariants.{NoMemory}
use Rattle.dw_sources.specs.declared.operation.Operation.{Operation as HeldOperation}
use Rattle.dw_sources.specs.declared.operation.Operation.TheVariants as held
use Rattle.dw_convert.specs.Expressions.{OutcomeWithin}
use Rattle.dw_convert.specs.Operations.{OperationOutcome}
use Rattle.dw_convert.specs.Steps.{Step, AreSteps, begins}
use Rattle.dw_convert.specs.declared.listing.Listing.{Listing}
use Rattle.dw_convert.specs.declared.listing.Step.{Step as HeldStep}

abbrev pub step_in : {R E : Type 0} → (R → Reading) → HeldStep R E → Step
step_in reading s = record { operation = operation_of reading s.operation; behind = s.behind }

abbrev pub steps_in : {R E : Type 0} → (R → Reading) → Listing R E → List Step
steps_in reading l = map (step_in reading) l.steps.items

-- an expression within an operation has the byte order of the one around it
abbrev pub HasOrder : {R E : Type 0} → (R → Reading) → Bool → HeldOperation R E → Type 0
HasOrder reading big (held.EntryValue x) = (reading x.0).is_big ≡ big
HasOrder reading big o = Unit

-- that order; other operations hold no expression
abbrev pub order_of : {R E : Type 0} → (R → Reading) → HeldOperation R E → Bool
order_of reading (held.EntryValue x) = (reading x.0).is_big
order_of reading o = false

-- what a step becomes, where expressions within it stand at most so deep
abbrev pub StepOutcome : {R E : Type 0} → (R → Reading) → (ℕ → Option Address → Type 0) → (ℕ → Result ℕ ConvertError) → (ℕ → Option UnitEntryId) → (ℕ → Option DebugInfoRef) → ℕ → Listing R E → HeldStep R E → Result Node ConvertError → Type 0
StepOutcome reading answers addresses entries infos depth l s r = OperationOutcome answers addresses entries infos l.encoding (OutcomeWithin answers addresses entries infos (order_of reading s.operation) l.encoding depth) l.begins.items s.behind (operation_of reading s.operation) r

abbrev pub as_node : Result BuiltOperation ConvertError → Result Node ConvertError
as_node (Ok o) = Ok (node_of o)
as_node (Err e) = Err e

-- what a step becomes that holds no other expression
abbrev pub FlatOutcome : {R E : Type 0} → (R → Reading) → (ℕ → Option Address → Type 0) → (ℕ → Result ℕ ConvertError) → (ℕ → Option UnitEntryId) → (ℕ → Option DebugInfoRef) → Listing R E → HeldStep R E → Result BuiltOperation ConvertError → Type 0
FlatOutcome reading answers addresses entries infos l s r = StepOutcome reading answers addresses entries infos 0 l s (as_node r)

-- whether an operation leads to an address, an entry, another operation or bytes, which have to be converted
abbrev pub leads_on : {R E : Type 0} → HeldOperation R E → Bool
leads_on (held.Address n) = true
leads_on (held.AddressIndex n) = true
leads_on (held.ConstantIndex n) = true
leads_on (held.ConstantType p x) = true
leads_on (held.RegisterType r p) = true
leads_on (held.DerefType b n p) = true
leads_on (held.Skip z) = true
leads_on (held.Branch z) = true
leads_on (held.Call p) = true
leads_on (held.CallRef p) = true
leads_on (held.VariableValue p) = true
leads_on (held.Convert p) = true
leads_on (held.Reinterpret p) = true
leads_on (held.EntryValue x) = true
leads_on (held.ImplicitValue x) = true
leads_on (held.ImplicitPointer p z) = true
leads_on (held.ParameterRef p) = true
leads_on o = false

-- what one becomes that doesn't, wherever it stands
abbrev pub StaysAs : {R E : Type 0} → (R → Reading) → Encoding → HeldOperation R E → Node → Type 0
StaysAs reading e o n = OperationOutcome (λ n a. ⊥) (λ i. Err NoMemory) (λ n. None) (λ n. None) e (λ bytes r. ⊥) [] 0 (operation_of reading o) (Ok n)

-- the operations of an expression, up to its end
pub record IsListing {R E : Type 0} (reading : R → Reading) (r : Reading) (e : Encoding) (l : Listing R E) : Type 0 where
  pub encoding : l.encoding ≡ e
  pub read : AreSteps (operation_at r.is_big e) (left r) (steps_in reading l)
  pub begins : l.begins.items ≡ begins (steps_in reading l)
  pub rising : IsNonDecreasing l.begins.items
  pub order : All (λ s. HasOrder reading r.is_big s.operation) l.steps.items
