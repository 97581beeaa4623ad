-- ---- lists
pub mod Lists
-- ---- what the names in use mean
pub mod Uses
pub mod Scopes
-- ---- the events of what spells tokens
pub mod Fine
pub mod FineTypes
mod FineExpressions
mod FineStatements
pub mod FineDeclarations
pub mod FineSpecification
mod Walk
pub mod Bodies
-- ---- what is declared at a place
pub mod Declared
mod Ways
pub mod Leads
-- ---- the declarations of what spells tokens
pub mod Fit
mod FitTypes
mod FitSpecification
pub mod FitBodies
-- ---- together
mod Root
mod Accepted
