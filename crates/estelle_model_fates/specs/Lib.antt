pub mod Fates
pub mod Order
