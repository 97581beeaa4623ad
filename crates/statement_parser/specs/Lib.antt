pub mod Statement
pub mod Routine
pub mod Forms
