pub mod Ends
pub mod Examples
pub mod Following
pub mod Layers
pub mod Refusals
pub mod Kept
pub mod Steps
