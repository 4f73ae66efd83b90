pub mod Folds
pub mod Machine
pub mod Closing
pub mod OneReading
pub mod Making
pub mod OneEdit
pub mod Worked
pub mod Sizes
