pub mod Points
pub mod Pairs
pub mod Linked
pub mod Kept
