pub mod Booleans
pub mod Holding
pub mod Orderings
pub mod Paired
pub mod Places
pub mod Ranges
