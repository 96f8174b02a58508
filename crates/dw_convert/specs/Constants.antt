-- Values that stay what they are: they lead to nothing that is converted (DWARF 5, 7.5.5).
use Rattle.std.specs.Prelude.{Result, Ok, Err}
use Rattle.dw_entries.specs.declared.value.AttributeValue.{AttributeValue}
use Rattle.dw_entries.specs.declared.value.AttributeValue.TheVariants as built
use Rattle.dw_read.specs.Values.{Value}
use Rattle.dw_read.specs.declared.value.AttributeValue.TheVariants as read
use Rattle.dw_sources.specs.declared.convert_error.ConvertError.{ConvertError}
use Rattle.dw_sources.specs.declared.convert_error.ConvertError.TheVariants.{InvalidAttributeValue}

-- Numbers, bytes, flags and codes, and places in sections and files that aren't read; an id of a split unit is a number. No section
-- is known for a place whose attribute's name doesn't tell it.
abbrev pub same_value : Value → Result AttributeValue ConvertError
same_value (read.Block xs) = Ok (built.Block xs)
same_value (read.String xs) = Ok (built.String xs)
same_value (read.Data1 n) = Ok (built.Data1 n)
same_value (read.Data2 n) = Ok (built.Data2 n)
same_value (read.Data4 n) = Ok (built.Data4 n)
same_value (read.Data8 n) = Ok (built.Data8 n)
same_value (read.Data16 n) = Ok (built.Data16 n)
same_value (read.Sdata z) = Ok (built.Sdata z)
same_value (read.Udata n) = Ok (built.Udata n)
same_value (read.DwoId i) = Ok (built.Udata i.0)
same_value (read.Flag b) = Ok (built.Flag b)
same_value (read.DebugInfoRefSup p) = Ok (built.DebugInfoRefSup p)
same_value (read.DebugStrRefSup p) = Ok (built.DebugStrRefSup p)
same_value (read.DebugMacinfoRef p) = Ok (built.DebugMacinfoRef p)
same_value (read.DebugMacroRef p) = Ok (built.DebugMacroRef p)
same_value (read.DebugTypesRef s) = Ok (built.DebugTypesRef s)
same_value (read.Encoding c) = Ok (built.Encoding c)
same_value (read.DecimalSign c) = Ok (built.DecimalSign c)
same_value (read.Endianity c) = Ok (built.Endianity c)
same_value (read.Accessibility c) = Ok (built.Accessibility c)
same_value (read.Visibility c) = Ok (built.Visibility c)
same_value (read.Virtuality c) = Ok (built.Virtuality c)
same_value (read.Language c) = Ok (built.Language c)
same_value (read.AddressClass c) = Ok (built.AddressClass c)
same_value (read.IdentifierCase c) = Ok (built.IdentifierCase c)
same_value (read.CallingConvention c) = Ok (built.CallingConvention c)
same_value (read.Inline c) = Ok (built.Inline c)
same_value (read.Ordering c) = Ok (built.Ordering c)
same_value v = Err InvalidAttributeValue
