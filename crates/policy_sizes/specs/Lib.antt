pub mod Broadcasts
pub mod Routes
pub mod Sizes
