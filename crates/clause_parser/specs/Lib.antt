pub mod Clause
pub mod Forms
pub mod Block
pub mod Group
pub mod Way
pub mod Place
pub mod TransBody
