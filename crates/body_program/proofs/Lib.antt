pub mod Numbered
pub mod Telling
pub mod Holding
