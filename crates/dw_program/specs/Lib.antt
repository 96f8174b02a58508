pub mod Texts
pub mod Faults
pub mod Listed
pub mod Converted
pub mod Commands
pub mod SetParts
pub mod Linked
pub mod Answers
