pub mod Gathered
pub mod Counted
pub mod SameNumbers
pub mod Rooms
pub mod Firsts
pub mod Serving
pub mod Ported
