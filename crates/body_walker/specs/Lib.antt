-- ---- what is run
pub mod Runs
