pub mod Examples
pub mod Flood
pub mod Forward
