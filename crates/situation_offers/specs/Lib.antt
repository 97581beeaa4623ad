-- ---- instances and their guards, one after another
pub mod Guards
-- ---- what guards come to
pub mod Asked
-- ---- what a system selects, and what is enabled
pub mod Selections
