pub mod Disjunctions
pub mod Sizes
