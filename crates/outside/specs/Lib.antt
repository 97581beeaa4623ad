pub mod Counts
pub mod Bytes
pub mod Standard
pub mod MachineTime
pub mod Choices
