pub mod Progress
mod OperandLaws
mod ListLaws
mod LocatedLaws
mod LocationLaws
mod PlainLaws
mod ReadLaws
mod TableLaws
mod DroppedNames
mod Worked
mod WorkedLists
