pub mod Lines
pub mod ScriptUnits
pub mod SetUnits
mod Worked
mod WorkedSets
pub mod Lists
pub mod Refusals
pub mod Drafts
mod MadeTrees
mod MadeSizes
mod MadeUnits
pub mod MadeValid
pub mod Unwritten
mod WorkedMake
