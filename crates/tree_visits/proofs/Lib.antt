pub mod Taken
pub mod StatementEquations
pub mod ClauseEquations
pub mod BodyEquations
