pub mod Groups
pub mod Meaning
