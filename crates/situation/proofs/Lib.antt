-- ---- tickets, and what nobody has taken
pub mod OpenTickets
pub mod Untaken
pub mod Flying
-- ---- steps as they are planned, and ends
pub mod Planned
pub mod Steps
pub mod Less
pub mod Adding
pub mod Ended
pub mod MoreRoom
pub mod Answering
-- ---- a run that is kept as it is
pub mod Kept
-- ---- selections and waits
pub mod Selected
pub mod Waited
-- ---- firings
pub mod Firings
pub mod Chosen
pub mod Commits
pub mod Settled
pub mod Fired
-- ---- the start
pub mod Listed
pub mod Delayed
pub mod Found
pub mod Starts
pub mod Settling
pub mod Begun
-- ---- what callers know
pub mod Stopped
pub mod Refused
pub mod Finished
pub mod Knowing
