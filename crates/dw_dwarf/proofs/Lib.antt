pub mod TextsAlone
pub mod RangesThere
pub mod ListsFound
pub mod LocationsThere
pub mod LocationsFound
pub mod Held
pub mod FileHeld
pub mod Complete
pub mod OneUnit
pub mod RestSections
pub mod Left
mod Setting
mod Filtering
mod WholeFilter
mod Becoming
mod Growing
mod GrowingBehind
mod AttributesSeen
mod Walking
mod Placing
mod SplitSteps
mod Worked
pub mod Ready
mod Rooted
mod Readability
mod SectionSteps
mod UnitSteps
