pub mod PlacesLemmas
pub mod EditedLemmas
pub mod EngineLemmas
pub mod SumsLemmas
pub mod DocumentLemmas
