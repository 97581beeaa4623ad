pub mod Forms
pub mod Readings
pub mod Fields
pub mod Lines
pub mod Stages
