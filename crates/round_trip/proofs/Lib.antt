pub mod Moves
pub mod TypeMoves
pub mod ExpressionMoves
pub mod StatementMoves
pub mod DeclarationMoves
pub mod ClauseMoves
pub mod SpecificationMoves
pub mod PlainForms
pub mod PlainTypes
pub mod PlainExpressions
pub mod PlainStatements
pub mod PlainDeclarations
pub mod PlainClauses
pub mod PlainSpecification
pub mod RespelledLaws
mod RoundTrip
