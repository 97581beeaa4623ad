pub mod JobLemmas
pub mod RootLemmas
pub mod StartLemmas
pub mod DelayLemmas
pub mod AskedGuards
pub mod GuardAnswers
pub mod SettledGuards
