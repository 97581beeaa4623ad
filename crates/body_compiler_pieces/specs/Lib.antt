pub mod Pieces
pub mod ExpressionCode
pub mod StatementCode
pub mod UnitCode
