-- ---- what a block is read in
pub mod Scopes
-- ---- what is computed of operands, names and labels that are evaluated or need no evaluation
pub mod Located
pub mod Operands
pub mod Labels
pub mod Hosts
pub mod Turns
pub mod Points
-- ---- what each function of the walk does
pub mod Walked
pub mod Accesses
