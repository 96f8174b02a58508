pub mod NumberLaws
pub mod Leb128Laws
pub mod HeaderLaws
pub mod TableLaws
pub mod EntryLaws
pub mod InfoLaws
pub mod Sizes
mod Worked
mod WorkedLineMachine
