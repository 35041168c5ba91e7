pub mod Among
pub mod Decided
