pub mod Lists
pub mod Lookups
pub mod Namespaces
pub mod Program
pub mod Rules
pub mod Tests
