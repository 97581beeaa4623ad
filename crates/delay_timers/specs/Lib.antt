pub mod Moments
pub mod Kept
pub mod Renewal
