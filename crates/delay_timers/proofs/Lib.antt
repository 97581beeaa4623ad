pub mod Orders
pub mod Rows
pub mod Seen
pub mod Least
pub mod Changes
pub mod Renewing
pub mod Inside
pub mod Walk
