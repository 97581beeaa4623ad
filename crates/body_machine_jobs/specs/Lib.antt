-- ---- what calls stand for
pub mod Stands
-- ---- jobs and guards, in parts
pub mod Made
pub mod Answered
