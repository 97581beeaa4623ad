pub mod Lists
pub mod Rising
-- ---- queues
pub mod Filing
pub mod Waiting
-- ---- links and instances
pub mod Ways
pub mod Points
pub mod Declaring
-- ---- situations and effects
pub mod Soundness
pub mod After
pub mod Writing
pub mod Lawful
-- ---- room
pub mod Room
pub mod Making
pub mod Progress
pub mod Answered
pub mod Counting
pub mod Reserved
pub mod Applied
