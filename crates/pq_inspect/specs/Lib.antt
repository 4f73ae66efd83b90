pub mod Front
pub mod Inspected
pub mod Inspection
