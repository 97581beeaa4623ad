-- ---- lists
pub mod Lists
-- ---- how a unit grows
pub mod Growth
pub mod Holes
pub mod Ends
-- ---- locals
pub mod Locals
-- ---- expressions, step by step
pub mod ExpressionSteps
pub mod NameSteps
pub mod FactorSteps
pub mod AccessSteps
pub mod TypeSteps
-- ---- statements, step by step
pub mod LabelSteps
pub mod StatementSteps
pub mod CaseSteps
pub mod CountSteps
pub mod ActSteps
-- ---- units
pub mod UnitSteps
