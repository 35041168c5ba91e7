pub mod Ordered
pub mod Padding
