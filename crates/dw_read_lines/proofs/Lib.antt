pub mod Orders
pub mod InstructionLaws
pub mod ReadLineLaws
pub mod InstructionReads
pub mod PastLaws
pub mod EntryLaws
pub mod TakenLaws
pub mod PartLaws
