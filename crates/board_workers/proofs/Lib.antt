pub mod Tasks
pub mod Starts
pub mod Sharing
