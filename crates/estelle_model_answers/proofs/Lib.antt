pub mod Owned
pub mod Alike
pub mod Within
pub mod Linked
pub mod Follows
pub mod Answering
