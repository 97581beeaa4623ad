pub mod OrderLemmas
pub mod LentLemmas
pub mod PartLemmas
pub mod FollowLemmas
pub mod BodyLemmas
pub mod StoreLemmas
pub mod WalkLemmas
