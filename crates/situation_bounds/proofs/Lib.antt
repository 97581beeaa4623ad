pub mod Answered
pub mod Before
pub mod Counts
pub mod Due
pub mod Known
pub mod Steps
pub mod Ended
pub mod Bounds
