pub mod Parts
pub mod Left
pub mod Stepped
pub mod State
pub mod Order
pub mod Most
pub mod Choices
pub mod Rests
