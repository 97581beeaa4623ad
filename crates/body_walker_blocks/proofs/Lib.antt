-- ---- how much is left to walk
pub mod Weights
pub mod Depths
-- ---- what is done step by step
pub mod Followed
pub mod Plans
pub mod Chains
pub mod ExpressionSteps
pub mod AccessSteps
pub mod CallSteps
pub mod HostSteps
pub mod LoopSteps
pub mod StatementSteps
pub mod PlanSteps
pub mod ActionSteps
pub mod InitSteps
pub mod BlockSteps
