pub mod Kept
pub mod Edges
pub mod Views
pub mod Search
mod Ordered
mod Weights
mod Within
mod Worked
mod Pending
mod ListSteps
mod WorkedChildren
mod WorkedGraph
mod AttributeSteps
mod Handing
mod FilterSteps
mod SectionSteps
mod Growing
mod LinkSteps
mod Naming
mod UnitReading
mod FileSteps
mod Closing
