-- The attributes of an entry, as names and values.
use Rattle.std.specs.Prelude.{ℕ, Bool, List, map, All, Option, Some, None}
use Rattle.dw_read.specs.Reading.{Reading}
use Rattle.dw_read.specs.Orders.{attribute_order, value_order, IsInOrder}
use Rattle.dw_read.specs.Values.{Value}
use Rattle.dw_read.specs.declared.attribute.Attribute.{Attribute}
use Rattle.dw_read.specs.declared.value.AttributeValue.{AttributeValue}
use Rattle.dw_read_units.specs.Roots.{named_in}

abbrev pub values_in : {R E : Type 0} → (R → Reading) → List (Attribute R E) → List (ℕ × Value)
values_in reading attrs = map (named_in reading) attrs

-- the bytes of blocks, texts and expressions are read in this order
abbrev pub AreInOrder : {R E : Type 0} → (R → Reading) → Bool → List (Attribute R E) → Type 0
AreInOrder reading big attrs = All (λ a. IsInOrder big (attribute_order reading a)) attrs

-- the order of a value's bytes, where there are any
abbrev pub order_of : {R E : Type 0} → (R → Reading) → Option (AttributeValue R E) → Option Bool
order_of reading None = None
order_of reading (Some v) = value_order reading v
