-- Attributes that were read, as the grammar has them.
use Rattle.dw_base.specs.Entries.{ReadAttribute}
use Rattle.dw_read.specs.Reading.{Reading}
use Rattle.dw_read.specs.Operands.{operand_of}
use Rattle.dw_read.specs.declared.attribute.Attribute.{Attribute}

abbrev pub attribute_of : {R E : Type 0} → (R → Reading) → Attribute R E → ReadAttribute
attribute_of reading a = record { name = a.name.0; form = a.form.0; constant = a.constant; operand = operand_of reading a.operand }
