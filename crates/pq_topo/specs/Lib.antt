pub mod Named
pub mod Naming
pub mod Statements
pub mod Stored
