-- ---- what is known of bodies before an instance is made
pub mod Bodies
pub mod Known
-- ---- how far a block has run, and that what a call does is what a step says
pub mod Progress
pub mod Follows
pub mod Held
-- ---- parts in path order, and what is done to them
pub mod InOrder
pub mod Alterations
-- ---- effects as they are kept
pub mod Entries
-- ---- what stores and walks are seen as
pub mod Kept
pub mod Seen
pub mod KeptLinks
pub mod Shown
