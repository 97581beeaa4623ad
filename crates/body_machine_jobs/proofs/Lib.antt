pub mod UnitRuns
pub mod BlockRuns
pub mod FiringRuns
pub mod LeftValues
pub mod GuardRuns
pub mod GuardParts
