pub mod ReadSteps
pub mod Reasons
pub mod WriteSteps
pub mod TextSteps
pub mod FindSteps
pub mod Again
pub mod CoverSteps
pub mod FoundUnits
pub mod UnitSteps
pub mod Outcomes
pub mod Answered
pub mod Runs
mod Worked
