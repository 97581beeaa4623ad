pub mod Formals
pub mod Received
pub mod Headers
pub mod Contributions
pub mod Standings
pub mod Ways
