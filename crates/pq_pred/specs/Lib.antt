pub mod Values
pub mod Predicates
pub mod Named
