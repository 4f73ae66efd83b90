pub mod Stated
pub mod Known
pub mod Limits
pub mod Ports
pub mod Room
