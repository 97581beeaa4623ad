pub mod TypeLemmas
pub mod BelongingLemmas
pub mod ValueLemmas
pub mod FrameLemmas
