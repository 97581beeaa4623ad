pub mod Lists
pub mod RequiredMeanings
pub mod TypeEquations
pub mod ExpressionEquations
pub mod StatementEquations
pub mod SpecificationEquations
mod Examples
mod ProvidedThree
