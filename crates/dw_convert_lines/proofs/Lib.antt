pub mod Reasons
pub mod Outcomes
pub mod Texts
mod Unnamed
pub mod Indices
pub mod OldEntries
pub mod Walking
pub mod EntrySteps
pub mod FileSteps
pub mod FileTargets
pub mod InfoSteps
pub mod WorkingLaws
pub mod FormatLaws
pub mod FormatWalks
mod WorkedFormats
pub mod Beginnings
pub mod FilesMade
pub mod EntriesMade
pub mod Headers
pub mod Told
pub mod ReadingLaws
pub mod StepLaws
pub mod SequenceLaws
pub mod EffectLaws
pub mod ReachedLaws
pub mod NextLaws
pub mod BegunPrograms
