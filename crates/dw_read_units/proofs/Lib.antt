pub mod LookupLaws
pub mod RootLaws
pub mod UnitLaws
mod EndLaws
pub mod WalkLaws
pub mod RowWalk
pub mod UnitParts
pub mod UnitWalk
mod Worked
