pub mod TypeForms
pub mod DefinitionForms
