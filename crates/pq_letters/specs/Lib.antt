pub mod Letters
pub mod Numbering
pub mod Order
pub mod Words
