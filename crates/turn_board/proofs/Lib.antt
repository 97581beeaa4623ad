pub mod Entries
pub mod Standings
pub mod TurnSteps
pub mod BoardSteps
pub mod Ready
pub mod Several
pub mod Callers
