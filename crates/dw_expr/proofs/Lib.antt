pub mod BranchLaws
pub mod EqualityLaws
pub mod SizeLaws
pub mod WriteSteps
pub mod PartLaws
pub mod Kept
mod Copies
mod OperandLaws
pub mod Placing
mod Worked
pub mod ExpressionDrafts
pub mod OpenPlaces
pub mod ExpressionsThere
