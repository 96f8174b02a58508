-- What a header says, as the grammar has it.
use Rattle.dw_base.specs.Headers.{Header}
use Rattle.dw_read.specs.Took.{option_of}
use Rattle.dw_read.specs.declared.fields.Fields.{Fields}

abbrev pub header_of : Fields → Header
header_of f = record { encoding = f.encoding; unit_type = option_of (λ t. t.0) f.unit_type; table_offset = f.table_offset; identity = f.identity; type_offset = f.type_offset }
