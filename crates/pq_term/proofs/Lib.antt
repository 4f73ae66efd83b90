pub mod Digits
pub mod Ends
pub mod Formed
pub mod Within
pub mod Cuts
pub mod GroupValues
pub mod Stored
pub mod Few
