pub mod Rising
pub mod Blocks
pub mod Apart
pub mod Reaches
pub mod Walks
pub mod Downwards
pub mod Priorities
pub mod Offering
