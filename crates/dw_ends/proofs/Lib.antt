pub mod Listings
pub mod Moves
pub mod Limits
pub mod Places
pub mod HexDigits
pub mod Cuts
pub mod Finds
mod ListedLines
mod Visible
mod Decimals
mod HexWords
mod ReadBack
mod Worked
