pub mod EntryLists
pub mod FaultLemmas
pub mod FilesOver
