pub mod Growth
pub mod Parts
pub mod Counts
pub mod Whole
