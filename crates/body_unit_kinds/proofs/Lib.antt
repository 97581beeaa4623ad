pub mod OperatorLemmas
pub mod EffectLemmas
pub mod ArgumentLemmas
pub mod Filling
pub mod Fine
pub mod HeaderLemmas
pub mod ShapeEquations
pub mod KindLemmas
