pub mod Cursor
pub mod Reader
pub mod Lists
pub mod Nests
