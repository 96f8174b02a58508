pub mod ErrorName
pub mod Numbered
pub mod Placed
pub mod Written
pub mod Outcome
