pub mod Covering
pub mod Examples
pub mod Joining
pub mod Laws
pub mod Refusals
pub mod Rows
pub mod Tables
pub mod Wanted
