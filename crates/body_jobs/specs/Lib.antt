-- ---- the specification's own instance
pub mod Roots
-- ---- jobs
pub mod Jobs
-- ---- guards of which nothing is evaluated
pub mod Settled
