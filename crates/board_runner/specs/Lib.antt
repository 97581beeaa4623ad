-- ---- what a board has of a world: the history of a run
pub mod Histories
-- ---- turns at it: what is taken, and what is committed
pub mod Turns
-- ---- what the functions of a turn tell each other
pub mod Going
