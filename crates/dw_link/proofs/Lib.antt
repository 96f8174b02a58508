pub mod Digits
pub mod Sums
pub mod Putting
pub mod Held
pub mod PartSteps
pub mod SectionSteps
pub mod SetSteps
pub mod LinkSteps
pub mod JoinLaws
pub mod Faultless
pub mod PartLengths
pub mod OldLists
pub mod ListsFound
pub mod Linked
pub mod JoinedSections
mod Worked
