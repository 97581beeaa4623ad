pub mod Stacked
pub mod Counting
pub mod Making
pub mod Sparing
pub mod Measure
pub mod Acting
pub mod Holding
pub mod Running
