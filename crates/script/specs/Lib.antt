pub mod Faults
pub mod Rows
pub mod Scripts
pub mod Spelled
pub mod Written
