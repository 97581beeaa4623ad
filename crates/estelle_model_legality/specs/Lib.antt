pub mod Instances
pub mod Linked
pub mod Mail
pub mod Pending
pub mod Situations
pub mod Jobs
pub mod Keeping
pub mod Choices
