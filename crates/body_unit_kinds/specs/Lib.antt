-- ---- kinds in code
pub mod Seen
-- ---- instructions and units by their kinds
pub mod Effects
pub mod Units
