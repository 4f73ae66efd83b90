pub mod Hops
pub mod Network
pub mod Searches
pub mod Stored
pub mod Wired
