pub mod Lawful
pub mod Places
pub mod Standing
pub mod Told
