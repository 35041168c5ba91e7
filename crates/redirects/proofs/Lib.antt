pub mod Ended
pub mod Refused
pub mod Steps
pub mod Worked
