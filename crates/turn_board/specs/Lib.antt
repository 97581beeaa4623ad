pub mod Accounts
pub mod Rule
pub mod Steps
pub mod Seats
pub mod Passes
