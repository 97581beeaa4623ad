mod Lists
-- ---- types that are declared
mod AllOf
mod TypesFound
mod InSight
mod Typeless
mod Flat
mod Keeps
mod TypesStay
mod Nests
mod TypePlaces
-- ---- selections and drops
mod Selections
mod Drops
-- ---- values and instances
mod Values
mod Readable
mod FilledTypes
mod Firm
mod Instances
-- ---- what every block keeps
mod Sound
mod SoundExpressions
mod Named
mod SoundStatements
mod Acts
-- ---- events and runs
mod Firings
mod Runs
-- ---- what the rules know of constants
mod Environments
mod ConstantKinds
mod Partners
mod PartnersSpelled
-- ---- what spells tokens
mod Passes
mod Holds
mod SpelledStatements
mod Declared
mod Kept
mod SpelledTypes
mod Filled
mod Held
mod Needed
mod Idle
mod Sight
mod Adds
mod Walks
mod Spelled
mod HeldBodies
-- ---- together
mod Accepted
