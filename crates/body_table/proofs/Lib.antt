pub mod Parameters
pub mod Numbering
pub mod WayEquations
pub mod BodyEquations
pub mod HeaderEquations
pub mod ChannelEquations
