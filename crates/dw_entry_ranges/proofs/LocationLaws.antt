-- The address with which an expression begins.
use Rattle.std.proofs.Common.{◌≡◌, ◌∙◌, sym, ap, subst, ℕ, List, [], ◌∷◌, length, Bool, true, false, Option, Some, None, Result, Ok, refl, ⊎_elim}
use Rattle.dw_base.specs.Numbers.{bytes_at, number_at}
use Rattle.dw_base.specs.declared.common.Encoding.{Encoding}
use Rattle.dw_base.specs.declared.constants.TheConstants.{DW_AT_location}
use Rattle.dw_read.specs.Reading.{Reading, left}
use Rattle.dw_read.specs.Orders.{IsInOrder}
use Rattle.dw_read.specs.Reasons.{number_read}
use Rattle.dw_read.specs.Took.{option_of}
use Rattle.dw_read.specs.Values.{Value, value_of}
use Rattle.dw_read.specs.declared.error.ReadError.{ReadError}
use Rattle.dw_read.specs.declared.value.AttributeValue.{AttributeValue}
use Rattle.dw_read.specs.declared.value.AttributeValue.TheVariants.{Exprloc}
use Rattle.dw_read.specs.declared.value.Expression.{Expression}
use Rattle.dw_read_units.specs.Roots.{last_value}
use Rattle.dw_sources.specs.OperationIters.{begins, IsOver, PassesOperation, RefusesOperation}
use Rattle.dw_sources.specs.OperationTable.{operation_read, operation_at}
use Rattle.dw_sources.specs.OperationViews.{operation_of}
use Rattle.dw_sources.specs.Operations.{Operation}
use Rattle.dw_sources.specs.declared.operation.Operation.{Operation as HeldOperation}
use Rattle.dw_sources.specs.declared.operation_iter.OperationIter.{OperationIter}
use Rattle.dw_entry_ranges.specs.Addresses.{if_any}
use Rattle.dw_entry_ranges.specs.Attributes.{order_of}
use Rattle.dw_entry_ranges.specs.Locations.{pushed, first_address, address_in_location, location_address}

-- no operation has no bytes
no_bytes : (big : Bool) (e : Encoding) (bytes : List ℕ) → length bytes ≡ 0 → operation_at big e bytes ≡ None
unfolding operation_at operation_read number_read number_at bytes_at
no_bytes big e [] h = refl
no_bytes big e (b ∷ bytes) h = absurd (let k : length (b ∷ bytes) ≡ 0 = h in cc)

module _ (address : ℕ → Result ℕ ReadError) (big : Bool) (e : Encoding) (bytes : List ℕ) (r : Result (Option ℕ) ReadError) where
  pushes : (o : Operation) (rest : List ℕ) → operation_at big e bytes ≡ Some (o, rest) → r ≡ pushed address o → r ≡ first_address address big e bytes
  unfolding first_address
  pushes o rest h k = rw h k

  pushes_none : operation_at big e bytes ≡ None → r ≡ Ok None → r ≡ first_address address big e bytes
  unfolding first_address
  pushes_none h k = rw h k

module _ (R E : Type 0) (reading : R → Reading) (address : ℕ → Result ℕ ReadError) (e : Encoding) (x : Expression R E) where
  -- what the first step over the operations of the expression says of its address
  module _ (given : Encoding) (old new : OperationIter R E) (same : given ≡ e) (from : old ≡ begins x given) where
    begun : old ≡ begins x e
    begun = from ∙ ap (begins x) same

    pub first_pushed : (o : HeldOperation R E) (r : Result (Option ℕ) ReadError) → PassesOperation reading old new o → r ≡ pushed address (operation_of reading o) → r ≡ first_address address (reading x.0).is_big e (left (reading x.0))
    first_pushed o r h k = pushes address (reading x.0).is_big e (left (reading x.0)) r (operation_of reading o) (left (reading new.input))
        (subst (λ (i : OperationIter R E). operation_at (reading i.input).is_big i.encoding (left (reading i.input)) ≡ Some (operation_of reading o, left (reading new.input))) begun h.operation.value) k

    pub first_over : IsOver reading old new → Ok None ≡ first_address address (reading x.0).is_big e (left (reading x.0))
    first_over h = pushes_none address (reading x.0).is_big e (left (reading x.0)) (Ok None) (no_bytes (reading x.0).is_big e (left (reading x.0)) (⊎_elim
        (λ (f : old.has_failed ≡ true). absurd (let w : old.has_failed ≡ false = ap (λ (i : OperationIter R E). i.has_failed) begun in cc))
        (λ (z : length (left (reading old.input)) ≡ 0). subst (λ (i : OperationIter R E). length (left (reading i.input)) ≡ 0) begun z) h)) refl

    pub first_refused : (why : ReadError) → RefusesOperation reading old new why → Ok None ≡ first_address address (reading x.0).is_big e (left (reading x.0))
    first_refused why h = pushes_none address (reading x.0).is_big e (left (reading x.0)) (Ok None)
        (subst (λ (i : OperationIter R E). operation_at (reading i.input).is_big i.encoding (left (reading i.input)) ≡ None) begun h.refused.none) refl

  pub located : (big : Bool) (xs : List (ℕ × Value)) (o : Option (AttributeValue R E)) (r : Result (Option ℕ) ReadError) → o ≡ Some (Exprloc x) → option_of (value_of reading) o ≡ last_value DW_AT_location.0 DW_AT_location.0 xs → IsInOrder big (order_of reading o)
      → r ≡ first_address address (reading x.0).is_big e (left (reading x.0)) → r ≡ location_address address big e xs
  unfolding location_address
  located big xs o r q v i h =
      let same : (reading x.0).is_big ≡ big = subst (λ (p : Option (AttributeValue R E)). IsInOrder big (order_of reading p)) q i in
      let value : last_value DW_AT_location.0 DW_AT_location.0 xs ≡ Some (value_of reading (Exprloc x)) = sym v ∙ ap (option_of (value_of reading)) q in
      h ∙ ap (λ (b : Bool). first_address address b e (left (reading x.0))) same ∙ sym (ap (λ y. if_any y (address_in_location address big e)) value)
