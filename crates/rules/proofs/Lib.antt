pub mod Feeds
pub mod Given
pub mod GivenBelow
pub mod Membership
pub mod Started
pub mod Worklists
