mod Departing
mod Ignoring
mod Implemented
mod InstancesAscend
mod Meant
pub mod PartsHalves
mod Presence
mod OneTagging
pub mod OneInstall
mod Existing
mod ClassTags
mod Fewest
