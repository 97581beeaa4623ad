-- ---- functions without side effects
pub mod Quiet
-- ---- what guards see
pub mod Seen
-- ---- offers that are kept
pub mod Offers
pub mod Laws
