-- ---- units one after another
pub mod Placed
