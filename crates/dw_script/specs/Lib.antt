pub mod Words
pub mod LinePrograms
pub mod Lists
pub mod Lines
pub mod LinkWords
pub mod LinkLines
