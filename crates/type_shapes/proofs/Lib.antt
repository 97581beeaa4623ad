pub mod ShapeEquations
pub mod SpellingEquations
pub mod NodeEquations
pub mod Apart
pub mod Firsts
