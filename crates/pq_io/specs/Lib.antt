pub mod Faults
pub mod Pieces
pub mod SinkState
pub mod SourceState
pub mod Stream
