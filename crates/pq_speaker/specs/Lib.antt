pub mod Division
pub mod Rules
pub mod Speaking
pub mod Hearing
pub mod World
