pub mod TermForms
pub mod VariableForms
pub mod FactorForms
