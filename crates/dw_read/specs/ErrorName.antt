-- The names of the reasons for which reading is refused.
use Rattle.std.specs.Prelude.{ℕ, List, codes}
use Rattle.dw_read.specs.declared.error.ReadError.{ReadError}
use Rattle.dw_read.specs.declared.error.ReadError.TheVariants.{UnexpectedEof, BadLeb128, UnknownReservedLength, UnknownVersion, UnsupportedAddressSize, UnsupportedSegmentSize, UnknownUnitType, AbbreviationTagZero, AttributeNameZero, BadHasChildren, DuplicateAbbreviationCode, UnknownForm, UnknownAbbreviation, MissingUnitDie, MissingSplitUnit, NoEntryAtGivenOffset, OffsetOutOfBounds, InvalidExpression, InvalidPiece, UnknownRangeListsEntry, UnknownLocListsEntry, UnknownCallFrameInstruction, UnknownAugmentation, UnknownPointerEncoding, InvalidCiePointer, NoMemory}

abbrev pub error_name : ReadError → List ℕ
error_name UnexpectedEof = codes "UnexpectedEof"
error_name BadLeb128 = codes "BadLeb128"
error_name UnknownReservedLength = codes "UnknownReservedLength"
error_name (UnknownVersion _) = codes "UnknownVersion"
error_name (UnsupportedAddressSize _) = codes "UnsupportedAddressSize"
error_name (UnsupportedSegmentSize _) = codes "UnsupportedSegmentSize"
error_name (UnknownUnitType _) = codes "UnknownUnitType"
error_name AbbreviationTagZero = codes "AbbreviationTagZero"
error_name AttributeNameZero = codes "AttributeNameZero"
error_name (BadHasChildren _) = codes "BadHasChildren"
error_name (DuplicateAbbreviationCode _) = codes "DuplicateAbbreviationCode"
error_name (UnknownForm _) = codes "UnknownForm"
error_name (UnknownAbbreviation _) = codes "UnknownAbbreviation"
error_name MissingUnitDie = codes "MissingUnitDie"
error_name MissingSplitUnit = codes "MissingSplitUnit"
error_name (NoEntryAtGivenOffset _) = codes "NoEntryAtGivenOffset"
error_name (OffsetOutOfBounds _) = codes "OffsetOutOfBounds"
error_name (InvalidExpression _) = codes "InvalidExpression"
error_name InvalidPiece = codes "InvalidPiece"
error_name (UnknownRangeListsEntry _) = codes "UnknownRangeListsEntry"
error_name (UnknownLocListsEntry _) = codes "UnknownLocListsEntry"
error_name (UnknownCallFrameInstruction _) = codes "UnknownCallFrameInstruction"
error_name UnknownAugmentation = codes "UnknownAugmentation"
error_name (UnknownPointerEncoding _) = codes "UnknownPointerEncoding"
error_name (InvalidCiePointer _) = codes "InvalidCiePointer"
error_name NoMemory = codes "NoMemory"
