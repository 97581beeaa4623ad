pub mod Uses
pub mod TypeEquations
pub mod Chains
pub mod Declarations
pub mod Found
