pub mod First
mod Examples
