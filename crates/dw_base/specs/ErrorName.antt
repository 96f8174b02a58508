-- The names of the reasons for which building and writing are refused.
use Rattle.std.specs.Prelude.{ℕ, List, codes}
use Rattle.dw_base.specs.declared.error.Error.{Error}
use Rattle.dw_base.specs.declared.error.Error.TheVariants.{NoMemory, WriteFault, OffsetOutOfBounds, LengthOutOfBounds, InvalidAttributeValue, ValueTooLarge, UnsupportedWordSize, UnsupportedVersion, InitialLengthOverflow, InvalidAddress, InvalidReference, NeedVersion, LineStringFormMismatch, InvalidRange, IncompatibleLineProgramEncoding, InvalidFrameCodeOffset, InvalidFrameDataOffset, UnsupportedPointerEncoding, UnsupportedCfiExpressionReference, UnsupportedExpressionForwardReference, MissingBaseAddress, UnexpectedBaseAddress, UnsetBranchTarget, LsdaMismatch}

abbrev pub error_name : Error → List ℕ
error_name NoMemory = codes "NoMemory"
error_name WriteFault = codes "WriteFault"
error_name OffsetOutOfBounds = codes "OffsetOutOfBounds"
error_name LengthOutOfBounds = codes "LengthOutOfBounds"
error_name InvalidAttributeValue = codes "InvalidAttributeValue"
error_name ValueTooLarge = codes "ValueTooLarge"
error_name (UnsupportedWordSize _) = codes "UnsupportedWordSize"
error_name (UnsupportedVersion _) = codes "UnsupportedVersion"
error_name InitialLengthOverflow = codes "InitialLengthOverflow"
error_name InvalidAddress = codes "InvalidAddress"
error_name InvalidReference = codes "InvalidReference"
error_name (NeedVersion _) = codes "NeedVersion"
error_name LineStringFormMismatch = codes "LineStringFormMismatch"
error_name InvalidRange = codes "InvalidRange"
error_name IncompatibleLineProgramEncoding = codes "IncompatibleLineProgramEncoding"
error_name (InvalidFrameCodeOffset _) = codes "InvalidFrameCodeOffset"
error_name (InvalidFrameDataOffset _) = codes "InvalidFrameDataOffset"
error_name (UnsupportedPointerEncoding _) = codes "UnsupportedPointerEncoding"
error_name UnsupportedCfiExpressionReference = codes "UnsupportedCfiExpressionReference"
error_name UnsupportedExpressionForwardReference = codes "UnsupportedExpressionForwardReference"
error_name MissingBaseAddress = codes "MissingBaseAddress"
error_name UnexpectedBaseAddress = codes "UnexpectedBaseAddress"
error_name UnsetBranchTarget = codes "UnsetBranchTarget"
error_name LsdaMismatch = codes "LsdaMismatch"
