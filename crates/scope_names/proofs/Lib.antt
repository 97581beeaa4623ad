pub mod Entries
pub mod Symmetry
pub mod Lists
pub mod First
pub mod Complete
