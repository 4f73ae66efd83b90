pub mod Found
pub mod Lettered
pub mod Numbered
pub mod Places
pub mod Signed
pub mod Spelled
