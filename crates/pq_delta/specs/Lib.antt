pub mod Added
pub mod Equal
pub mod Exact
pub mod Changes
pub mod Delta
pub mod Turning
pub mod Keys
