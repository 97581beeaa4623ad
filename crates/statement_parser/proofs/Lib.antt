pub mod PartForms
pub mod Whole
pub mod StatementForms
pub mod RoutineForms
