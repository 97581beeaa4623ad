-- ---- what a machine has that goes on
pub mod Typed
-- ---- the laws
pub mod Laws
pub mod NeverStuck
