-- ---- what public clauses cite
pub mod Standing
pub mod Putting
pub mod Rooms
-- ---- what the functions of this crate tell each other
pub mod Reserving
pub mod Underway
