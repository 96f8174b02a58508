pub mod Signed
pub mod Walks
pub mod Steps
pub mod Kept
pub mod Expressions
pub mod Items
pub mod Ranges
pub mod Locations
mod WorkedExpressions
mod WorkedValues
