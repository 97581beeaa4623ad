pub mod WritingLemmas
pub mod TypeEquations
pub mod ExpressionEquations
pub mod StatementEquations
pub mod ClauseEquations
pub mod SpecificationEquations
pub mod LoopLaws
