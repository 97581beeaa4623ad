-- ---- expressions and statements
mod Expressions
mod Statements
mod Uses
-- ---- what events declare
mod Found
mod Counted
-- ---- what names mean
mod Told
-- ---- all bodies
mod Clauses
mod Walk
-- ---- together
mod Ways
mod Quiet
