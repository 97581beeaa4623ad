pub mod Values
pub mod Parts
pub mod Places
pub mod Plans
pub mod Items
pub mod Good
pub mod Given
pub mod Making
pub mod Going
pub mod Runs
pub mod Starting
pub mod Jobs
pub mod TrueGuards
pub mod NeverStuck
mod Worked
