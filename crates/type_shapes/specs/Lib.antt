-- ---- the types of a text
pub mod TypeNodes
-- ---- shapes by what spells them
pub mod Spelling
pub mod Numbered
