pub mod Numbers
pub mod Meeting
