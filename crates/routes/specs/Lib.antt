pub mod Reach
pub mod Routes
