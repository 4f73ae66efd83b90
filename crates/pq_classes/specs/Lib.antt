pub mod Told
pub mod Lowered
pub mod Room
pub mod Letters
