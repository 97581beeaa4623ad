pub mod Keys
pub mod Chains
pub mod Rows
pub mod Table
pub mod Queues
pub mod Homes
pub mod Holds
