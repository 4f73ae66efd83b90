pub mod Grammar
pub mod Sentences
pub mod Tables
pub mod Ahead
pub mod Reading
pub mod Classes
