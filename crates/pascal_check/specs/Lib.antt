pub mod Opening
pub mod Faults
