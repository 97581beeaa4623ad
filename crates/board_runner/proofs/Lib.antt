-- ---- ends among entries, and the history of a world
pub mod Ends
-- ---- what a world gives
pub mod Given
-- ---- what is settled
pub mod Settled
-- ---- whole turns
pub mod WholeTurns
