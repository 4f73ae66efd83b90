pub mod Trees
pub mod Texts
pub mod Shapes
pub mod Growth
pub mod Reading
