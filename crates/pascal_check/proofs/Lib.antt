pub mod Members
pub mod Following
pub mod Openings
pub mod Breaches
mod OfSpecification
