-- ---- kinds of values and places
pub mod Kinds
-- ---- codes of good kinds
pub mod Kinded
pub mod Good
