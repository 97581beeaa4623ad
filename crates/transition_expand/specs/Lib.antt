pub mod Domains
pub mod TransitionRules
pub mod Refusals
