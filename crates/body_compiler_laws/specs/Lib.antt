-- ---- what a whole specification is compiled to
pub mod Compiled
pub mod Codes
-- ---- codes that grow
pub mod Order
-- ---- laws
pub mod Laws
