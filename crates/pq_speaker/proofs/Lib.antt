pub mod Dividing
pub mod Pieces
pub mod Passing
pub mod Effects
pub mod Taking
pub mod Stages
pub mod Worlds
pub mod WorkedSessions
