pub mod GuardLemmas
pub mod FiringLemmas
pub mod ChosenGuards
