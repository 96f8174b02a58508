pub mod Steps
mod Searching
pub mod Found
mod RowSteps
mod HeldUnits
mod UnitSteps
mod KeptUnitSteps
pub mod Planning
pub mod KeptLaws
mod Passing
pub mod Until
mod Cursor
pub mod KeptSteps
pub mod KeptNext
pub mod KeptPlans
pub mod FirstLaws
mod WorkedKept
pub mod KeptClosed
pub mod UnitsBehind
