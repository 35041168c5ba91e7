pub mod Scripted
pub mod Spelt
