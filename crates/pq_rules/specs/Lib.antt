pub mod Paths
pub mod Found
pub mod Counts
pub mod Tables
pub mod Grouping
pub mod Refusals
pub mod Renewing
