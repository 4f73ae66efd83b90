mod Exact
pub mod Members
pub mod OneList
mod Yielded
pub mod Choices
