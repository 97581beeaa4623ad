-- ---- a state, and what it stands for
pub mod At
-- ---- what is put
pub mod Ran
pub mod Counted
pub mod Fired
-- ---- what is pending
pub mod Lists
