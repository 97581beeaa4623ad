pub mod Numbers
pub mod RunTurns
