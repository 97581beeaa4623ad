pub mod DelayTimers
pub mod Callers
