-- ---- what a firing leaves elsewhere
pub mod Rest
pub mod Instances
pub mod Links
pub mod Privates
pub mod Queues
-- ---- laws
pub mod Answers
pub mod Apart
pub mod Runs
