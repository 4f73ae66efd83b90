pub mod Numbers
pub mod FieldLaws
pub mod Matches
pub mod Whole
pub mod Places
