pub mod Known
pub mod Kinds
pub mod Sections
pub mod Held
