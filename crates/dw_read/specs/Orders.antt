-- The byte order of the parts of a section that operands and values hand out.
use Rattle.std.specs.Prelude.{◌≡◌, Bool, Option, Some, None}
use Rattle.dw_read.specs.Reading.{Reading}
use Rattle.dw_read.specs.declared.attribute.Attribute.{Attribute}
use Rattle.dw_read.specs.declared.operand.Operand.{Operand}
use Rattle.dw_read.specs.declared.operand.Operand.TheVariants as held
use Rattle.dw_read.specs.declared.value.AttributeValue.{AttributeValue}
use Rattle.dw_read.specs.declared.value.AttributeValue.TheVariants as read

-- the order of the bytes that an operand stands for; a number has none, as it was read in its own
abbrev pub operand_order : {R E : Type 0} → (R → Reading) → Operand R E → Option Bool
operand_order reading (held.Bytes r) = Some (reading r).is_big
operand_order reading (held.Text r) = Some (reading r).is_big
operand_order reading o = None

-- that of an attribute
abbrev pub attribute_order : {R E : Type 0} → (R → Reading) → Attribute R E → Option Bool
attribute_order reading a = operand_order reading a.operand

-- that of a value
abbrev pub value_order : {R E : Type 0} → (R → Reading) → AttributeValue R E → Option Bool
value_order reading (read.Block r) = Some (reading r).is_big
value_order reading (read.Exprloc x) = Some (reading x.0).is_big
value_order reading (read.String r) = Some (reading r).is_big
value_order reading v = None

-- bytes, where there are any, are read in this order
abbrev pub IsInOrder : Bool → Option Bool → Type 0
IsInOrder big None = Unit {0}
IsInOrder big (Some order) = order ≡ big
