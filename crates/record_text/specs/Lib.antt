pub mod Collecting
pub mod Faults
pub mod Fields
pub mod Flags
pub mod Forms
pub mod Nodes
pub mod Placing
pub mod Reading
