pub mod ListFacts
pub mod TableFacts
