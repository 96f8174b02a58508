-- What reading one operation of an expression comes to.
use Rattle.std.specs.Prelude.{◌≡◌, ◌⊎◌, false, List, [], ◌∷◌, ◌++◌, Option, Some, None}
use Rattle.dw_base.specs.declared.common.Encoding.{Encoding}
use Rattle.dw_base.specs.declared.offsets.UnitSectionOffset.{UnitSectionOffset}
use Rattle.dw_read.specs.Reading.{Reading, left}
use Rattle.dw_read.specs.declared.value.Expression.{Expression}
use Rattle.dw_read_units.specs.declared.unit_ref.UnitRef.{UnitRef}
use Rattle.dw_sources.specs.OperationIters.{begins, PassesOperation}
use Rattle.dw_sources.specs.OperationTable.{operation_at}
use Rattle.dw_sources.specs.OperationViews.{operation_of}
use Rattle.dw_sources.specs.RawListIters.{encoding_in}
use Rattle.dw_sources.specs.declared.operation.Operation.{Operation as HeldOperation}
use Rattle.dw_sources.specs.declared.operation_iter.OperationIter.{OperationIter}
use Rattle.dw_filter.specs.PlaceViews.{bounds_of, held_within}
use Rattle.dw_filter.specs.Places.{place_named, if_any}
use Rattle.dw_filter.specs.declared.expression_places.Named.{Named}

-- the operations of an expression, from the first on, where there is one
abbrev pub begun_in : {R E : Type 0} → Encoding → Option (Expression R E) → List (OperationIter R E)
begun_in e None = []
begun_in e (Some x) = begins x e ∷ []

module _ {R E : Type 0} (reading : R → Reading) (u : UnitRef R E) (old : OperationIter R E) where
  -- no operation can be read
  abbrev pub IsStuck : Type 0
  IsStuck = old.has_failed ≡ false → operation_at (reading old.input).is_big old.encoding (left (reading old.input)) ≡ None

  -- an operation is read, and this is what it names
  pub record Names (new : OperationIter R E) (n : Named R E) : Type 0 where
    pub o : HeldOperation R E
    pub passes : PassesOperation reading old new o
    pub place : n.place ≡ place_named (bounds_of reading u) (operation_of reading o)
    pub within : n.within ≡ held_within o

  abbrev pub NamesNext : OperationIter R E → Option (Named R E) → Type 0
  NamesNext new None = IsStuck
  NamesNext new (Some n) = Names new n

  module _ (pending pending' : List (OperationIter R E)) (places places' : List UnitSectionOffset) where
    -- the expression is pending again, and behind it the one within the operation
    pub record ReadsOn : Type 0 where
      pub new : OperationIter R E
      pub o : HeldOperation R E
      pub passes : PassesOperation reading old new o
      pub again : List (OperationIter R E)
      pub behind : again ≡ pending ++ new ∷ []
      pub pends : pending' ≡ again ++ begun_in (encoding_in u) (held_within o)
      pub adds : places' ≡ places ++ if_any (place_named (bounds_of reading u) (operation_of reading o))

    -- the expression is pending no more
    pub record ReadsNoMore : Type 0 where
      pub none : IsStuck
      pub pends : pending' ≡ pending
      pub adds : places' ≡ places

    abbrev pub ReadsNext : Type 0
    ReadsNext = ReadsOn ⊎ ReadsNoMore
