-- ---- the machine, and what its instructions do
pub mod Machine
pub mod Slots
pub mod Operations
pub mod Frames
pub mod Ends
pub mod Rows
pub mod Steps
pub mod Seen
pub mod Ahead
pub mod Runs
