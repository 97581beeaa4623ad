pub mod Forms
pub mod Bodies
pub mod Whole
pub mod Answers
