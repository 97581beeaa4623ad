-- ---- one instance
pub mod Counted
pub mod Own
pub mod Cases
-- ---- instances side by side
pub mod Parts
pub mod Splits
-- ---- the two walks
pub mod Among
pub mod Walks
