pub mod Faults
pub mod Interned
pub mod Lines
pub mod Paths
pub mod Spelled
pub mod Texts
pub mod Words
