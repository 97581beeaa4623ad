-- ---- what the parts of a tree tell of bodies
pub mod Headings
pub mod Own
pub mod Chosen
pub mod Told
-- ---- what a program holds
pub mod Programs
