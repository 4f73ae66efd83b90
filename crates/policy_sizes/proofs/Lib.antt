pub mod Nowhere
pub mod Operands
pub mod Switches
