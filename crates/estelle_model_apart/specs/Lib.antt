-- ---- what other events leave of a pending firing
pub mod Apart
-- ---- and so of what is computed of it
pub mod Answers
