-- ---- what instances offer, and what they count
pub mod Blocks
pub mod Offers
pub mod Spans
pub mod Countings
-- ---- what is chosen of it
pub mod Choosing
