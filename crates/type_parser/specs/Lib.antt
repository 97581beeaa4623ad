pub mod Types
pub mod Definitions
