pub mod Shared
pub mod Listing
pub mod Units
pub mod Firsts
