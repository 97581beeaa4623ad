pub mod ActionLemmas
pub mod ChildLemmas
