pub mod Names
pub mod Refused
pub mod LineChanges
pub mod Expressions
pub mod OpenOperations
pub mod RangeLists
pub mod LocationLists
pub mod Changes
