-- ---- the unit that is being written
pub mod Drafts
-- ---- what is known where it is written
pub mod Known
pub mod Scopes
-- ---- what each function of the compiler adds to it
pub mod Tails
pub mod Emitted
pub mod EmittedStatements
