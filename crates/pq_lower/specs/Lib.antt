pub mod HalfSteps
pub mod Operators
pub mod Added
pub mod Lowered
pub mod Built
pub mod Depth
