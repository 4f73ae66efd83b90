pub mod Switches
pub mod Faults
pub mod Held
pub mod Network
