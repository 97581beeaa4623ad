pub mod Forms
pub mod Attributes
pub mod Channels
pub mod Declarations
pub mod Plain
pub mod Productions
