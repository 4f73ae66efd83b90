pub mod Lookup
pub mod Sent
