pub mod Copies
pub mod EntryOrder
pub mod Found
pub mod Opened
pub mod Searched
pub mod Removed
