mod Replaced
mod Items
mod Differing
mod Placed
mod Unions
pub mod Trees
mod Changing
pub mod Filling
mod Leaves
mod Moving
mod Removing
mod Called
mod Summed
