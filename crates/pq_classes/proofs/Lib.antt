pub mod Order
pub mod Spelled
pub mod Following
pub mod Joined
pub mod Held
pub mod Values
pub mod Whole
pub mod Counted
pub mod Ignoring
pub mod OneLowered
pub mod Signed
mod Example
