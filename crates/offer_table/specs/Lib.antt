-- ---- lists in path order
pub mod Order
-- ---- the table
pub mod Tables
-- ---- how it is searched
pub mod Searches
