mod Counted
mod Fits
mod LawfulDocuments
mod LawfulGroups
mod LawfulPolicies
mod LawfulPreds
mod LawfulQueries
pub mod OneDocument
pub mod OneFault
pub mod Statements
pub mod Values
pub mod Labelled
pub mod Joined
pub mod InstallLemmas
