pub mod Cuts
pub mod CutTypes
pub mod CutExpressions
pub mod CutStatements
pub mod CutDeclarations
pub mod CutClauses
pub mod CutSpecification
pub mod Folds
pub mod ExpressionFolds
pub mod StatementFolds
mod Examples
