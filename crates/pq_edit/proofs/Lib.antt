mod Among
mod Changed
mod Counted
mod LawfulEdited
mod LawfulEdits
mod OneEdit
mod Statements
