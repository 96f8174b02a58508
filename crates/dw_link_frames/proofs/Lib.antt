pub mod Turning
pub mod Pointing
pub mod Expressing
pub mod Instructing
pub mod Entering
pub mod Tabling
pub mod Joining
pub mod Widths
pub mod Telling
pub mod Steps
pub mod Knowing
pub mod Sound
pub mod Valid
pub mod Accepted
pub mod Whole
pub mod Complete
mod Worked
