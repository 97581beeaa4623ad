pub mod Forms
pub mod Attributes
pub mod Channels
pub mod Declarations
pub mod Begins
