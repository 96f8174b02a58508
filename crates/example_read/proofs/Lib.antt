mod RowWalk
mod UnitParts
mod UnitWalk
