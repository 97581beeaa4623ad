-- ---- flat transitions, as a list of each body and of a specification
pub mod Flat
pub mod FlatList
pub mod FromStates
-- ---- choices of values for the names of `any`, and how many there are
pub mod Choices
pub mod Chosen
pub mod Counts
-- ---- what walks keep
pub mod StateSets
pub mod Walks
pub mod BodyWalks
