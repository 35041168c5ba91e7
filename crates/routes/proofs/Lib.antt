pub mod Searching
pub mod Spreads
