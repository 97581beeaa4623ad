-- ---- what the transitions of instances allow
pub mod Countings
-- ---- what is decided of it
pub mod Deciding
