-- ---- what reads some instances alone does alike where they are the same
pub mod Folds
pub mod Places
pub mod Operands
pub mod Expressions
pub mod Statements
pub mod Calls
-- ---- guards
pub mod Guards
pub mod Rows
