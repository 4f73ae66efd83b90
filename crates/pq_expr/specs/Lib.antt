pub mod Word
pub mod Expr
pub mod Language
