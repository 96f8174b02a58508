pub mod Pieces
pub mod Causes
pub mod Factors
pub mod Operands
pub mod Instructions
pub mod Advances
pub mod Programs
