pub mod Values
pub mod Lines
pub mod Stated
pub mod Schedules
pub mod States
