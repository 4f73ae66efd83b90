pub mod Cuts
pub mod Trees
pub mod Pieces
pub mod Agreement
