pub mod AtomsOfTrees
pub mod Ascending
mod Below
pub mod Counted
pub mod Listed
pub mod OneFromEach
pub mod Ports
pub mod WorkedLabels
pub mod WorkedLanguage
