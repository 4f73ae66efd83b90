pub mod Places
pub mod Codes
pub mod Engine
pub mod Sums
pub mod Changes
