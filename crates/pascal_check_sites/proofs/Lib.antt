pub mod SiteLists
pub mod LoopLaws
mod LabelSets
mod StatementLists
mod Walks
