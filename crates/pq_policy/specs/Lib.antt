pub mod Grown
pub mod Policy
pub mod Resolved
