-- ---- for which situation a state stands
pub mod At
-- ---- firings
pub mod Firings
-- ---- what is pending
pub mod Places
-- ---- systems
pub mod Systems
