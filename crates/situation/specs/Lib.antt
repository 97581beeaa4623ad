-- ---- the history of a run, and its end
pub mod Runs
-- ---- a step as it is planned
pub mod Planned
-- ---- what a caller knows of a world, and what its steps do
pub mod Known
-- ---- what a world keeps
pub mod Worlds
-- ---- what the functions of this crate tell each other
pub mod Putting
pub mod Systems
pub mod Steps
