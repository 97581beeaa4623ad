pub mod PathLaws
pub mod OrderLaws
pub mod TableLaws
pub mod FoundLaws
