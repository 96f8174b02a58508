pub mod Steps
pub mod CodeLaws
pub mod Again
