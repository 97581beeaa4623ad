pub mod Declaring
pub mod Typing
pub mod Bodies
