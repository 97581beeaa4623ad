pub mod Trees
pub mod Values
pub mod Codes
pub mod Programs
pub mod Stores
pub mod Worlds
