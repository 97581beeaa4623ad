pub mod Tasks
pub mod Statuses
pub mod Input
pub mod Answers
pub mod Calls
