-- ---- what is declared, in text order
pub mod Outline
pub mod Found
pub mod Places
-- ---- the numbers
pub mod Numbering
pub mod Held
-- ---- what they promise
pub mod Laws
