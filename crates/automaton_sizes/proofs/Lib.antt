pub mod Atoms
pub mod Nowhere
pub mod Operands
