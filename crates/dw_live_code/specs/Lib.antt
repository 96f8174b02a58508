pub mod Entries
pub mod FileUnits
pub mod Pruned
pub mod LiveLines
pub mod Answers
pub mod Runs
