-- ---- lists and paths
pub mod Lists
pub mod Ways
pub mod Lookups
pub mod Members
pub mod Entries
-- ---- instances
pub mod Belonging
pub mod Standing
pub mod Leaving
-- ---- links and interactions
pub mod Linking
pub mod Effects
-- ---- within a firing
pub mod Within
pub mod Steps
pub mod Acts
pub mod Making
pub mod Nested
pub mod Running
pub mod Started
pub mod Fired
pub mod Others
-- ---- jobs
pub mod Taken
pub mod Conditions
-- ---- what is chosen
pub mod Children
pub mod Choosing
pub mod ChosenOnce
pub mod ChosenThere
-- ---- selections, events and runs
pub mod Apart
pub mod Systems
pub mod Selected
pub mod Delays
pub mod Keeping
