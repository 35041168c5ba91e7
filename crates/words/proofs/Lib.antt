pub mod Cuts
pub mod Lined
pub mod Numbering
pub mod Tables
pub mod Worded
