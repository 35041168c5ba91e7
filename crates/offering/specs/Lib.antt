pub mod Computed
pub mod ExportedNames
pub mod Marks
pub mod Offers
pub mod Refusals
pub mod Walks
