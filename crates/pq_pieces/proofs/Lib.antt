pub mod Within
pub mod Steps
pub mod Readings
