pub mod Visit
pub mod Visits
pub mod Nodes
pub mod Taking
