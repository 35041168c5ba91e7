pub mod Covered
pub mod Fronts
pub mod Lawfully
pub mod RowFacts
pub mod TableFacts
