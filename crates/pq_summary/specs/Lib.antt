pub mod Lengths
pub mod Summary
