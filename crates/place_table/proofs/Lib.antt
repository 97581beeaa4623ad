pub mod Latest
pub mod Over
