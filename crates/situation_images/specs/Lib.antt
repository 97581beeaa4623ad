pub mod Instances
pub mod Starts
pub mod Putting
pub mod Reading
