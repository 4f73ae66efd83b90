pub mod LaidOut
pub mod Sent
