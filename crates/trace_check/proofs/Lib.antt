-- ---- runs and their beginnings
pub mod Prefixes
pub mod Computed
pub mod Nexts
pub mod Starting
-- ---- selections, faults and ends
pub mod Faulting
pub mod Offered
pub mod Deciding
pub mod Off
pub mod Counted
pub mod Found
pub mod Closing
pub mod Refusing
-- ---- what is kept
pub mod JudgingOn
pub mod Beginning
pub mod Settling
pub mod Judged
