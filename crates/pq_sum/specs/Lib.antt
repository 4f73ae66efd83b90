pub mod Sum
pub mod Cells
pub mod Places
pub mod Calls
