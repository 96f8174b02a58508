-- The reasons for which converting is refused: their names, and the reader's reasons among them.
use Rattle.std.specs.Prelude.{ℕ, List, codes}
use Rattle.dw_read.specs.ErrorName.{error_name}
use Rattle.dw_read.specs.declared.error.ReadError.{ReadError}
use Rattle.dw_read.specs.declared.error.ReadError.TheVariants as read
use Rattle.dw_sources.specs.declared.convert_error.ConvertError.{ConvertError}
use Rattle.dw_sources.specs.declared.convert_error.ConvertError.TheVariants.{Read, NoMemory, InvalidAddress, InvalidUnitRef, InvalidDebugInfoRef, InvalidBranchTarget, InvalidAttributeValue, InvalidLineRef, InvalidFileIndex, InvalidDirectoryIndex, InvalidRangeRelativeAddress, UnsupportedOperation, UnsupportedCfiInstruction, UnsupportedLineProgram, IntegerOverflow}

abbrev pub convert_error_name : ConvertError → List ℕ
convert_error_name (Read e) = error_name e
convert_error_name NoMemory = codes "NoMemory"
convert_error_name InvalidAddress = codes "InvalidAddress"
convert_error_name InvalidUnitRef = codes "InvalidUnitRef"
convert_error_name InvalidDebugInfoRef = codes "InvalidDebugInfoRef"
convert_error_name InvalidBranchTarget = codes "InvalidBranchTarget"
convert_error_name InvalidAttributeValue = codes "InvalidAttributeValue"
convert_error_name InvalidLineRef = codes "InvalidLineRef"
convert_error_name InvalidFileIndex = codes "InvalidFileIndex"
convert_error_name InvalidDirectoryIndex = codes "InvalidDirectoryIndex"
convert_error_name InvalidRangeRelativeAddress = codes "InvalidRangeRelativeAddress"
convert_error_name UnsupportedOperation = codes "UnsupportedOperation"
convert_error_name UnsupportedCfiInstruction = codes "UnsupportedCfiInstruction"
convert_error_name UnsupportedLineProgram = codes "UnsupportedLineProgram"
convert_error_name IntegerOverflow = codes "IntegerOverflow"

-- want of memory is one reason, whoever wants it
abbrev pub from_read : ReadError → ConvertError
from_read read.NoMemory = NoMemory
from_read e = Read e
