-- ---- the state of a run, as far as blocks reach it
pub mod Core
pub mod Effects
pub mod States
-- ---- what stops a step; types, values and operators
pub mod Stops
pub mod Types
pub mod Belonging
pub mod Operators
-- ---- what names mean
pub mod Meant
pub mod Constants
pub mod Denoted
pub mod Definitions
pub mod Bodies
pub mod Names
pub mod Transitions
pub mod Subject
pub mod InteractionPoints
pub mod Attributes
-- ---- what expressions, statements, blocks and clauses mean
pub mod Steps
pub mod Places
pub mod Expressions
pub mod Loops
pub mod Statements
pub mod Plans
pub mod Calls
pub mod Actions
pub mod Acts
pub mod Blocks
pub mod Clauses
-- ---- situations
pub mod Situation
pub mod Queues
pub mod Firing
pub mod Jobs
pub mod Computed
pub mod Asked
-- ---- runs
pub mod Delays
pub mod Selection
pub mod Choosers
pub mod Runs
pub mod Ends
pub mod Schedule
pub mod Trace
