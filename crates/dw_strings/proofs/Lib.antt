pub mod Steps
pub mod StringLaws
pub mod Placing
