pub mod Counted
pub mod LengthLemmas
pub mod InstallLemmas
