pub mod Equal
pub mod EqualLaws
pub mod Codes
