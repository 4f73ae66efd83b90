pub mod Documents
pub mod Lawful
pub mod Names
pub mod Prepared
pub mod Compiled
pub mod Laws
