-- ---- what an operation on values gives in code
pub mod Gives
