pub mod OutlineEquations
pub mod Listing
pub mod BodyLemmas
pub mod Holding
pub mod Listed
pub mod StandingFor
