mod ListLemmas
mod OwnLemmas
mod EntriesLemmas
mod GroupsLemmas
mod FitLemmas
pub mod TurningLemmas
mod LawfulLemmas
mod KeysLemmas
mod StepLemmas
mod AssemblyLemmas
mod MessagesLemmas
mod UnchangedLemmas
