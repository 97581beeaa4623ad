pub mod Fronts
pub mod Lexes
pub mod Turns
pub mod Answers
pub mod Blanks
pub mod Forms
