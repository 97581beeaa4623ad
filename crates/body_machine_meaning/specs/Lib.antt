-- ---- what the machine comes to
pub mod Executed
-- ---- codes that mean what the bodies mean
pub mod Faithful
