pub mod ErrorName
pub mod Faults
pub mod Bits
pub mod Sets
pub mod Outcome
pub mod Steps
pub mod Lists
pub mod Linked
