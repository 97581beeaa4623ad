pub mod Parts
pub mod Found
pub mod Pending
pub mod Alone
pub mod Reading
