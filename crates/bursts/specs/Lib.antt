pub mod Slots
pub mod Searches
pub mod Calls
pub mod Claims
