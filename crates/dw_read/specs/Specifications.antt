-- An attribute of a declaration, as the grammar has it.
use Rattle.dw_base.specs.Abbreviations.{Specification}
use Rattle.dw_read.specs.declared.abbreviation.AttributeSpecification.{AttributeSpecification}

abbrev pub specification_of : AttributeSpecification → Specification
specification_of s = record { name = s.name.0; form = s.form.0; constant = s.implicit_const_value }
