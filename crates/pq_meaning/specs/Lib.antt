pub mod Meaning
pub mod Parts
pub mod Compiled
pub mod Laws
pub mod Tags
pub mod Markings
