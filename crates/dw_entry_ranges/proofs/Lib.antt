mod AttributeLaws
mod LookupLaws
mod ListLaws
mod LiveLaws
pub mod RequiredMembers
mod RequiredRowSteps
mod RequiredSteps
mod LocationLaws
mod Worked
