pub mod Names
pub mod Order
pub mod Packet
pub mod Pred
pub mod Stored
pub mod Writes
