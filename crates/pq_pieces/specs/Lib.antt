pub mod Pieces
pub mod Lines
pub mod Scans
pub mod Reading
