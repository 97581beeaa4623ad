pub mod Front
pub mod Lex
pub mod Tokens
pub mod Place
pub mod Blank
