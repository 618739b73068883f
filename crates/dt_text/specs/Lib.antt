pub mod Lines
pub mod Names
pub mod Numbers
pub mod Parts
pub mod Spans
pub mod Tokens
pub mod Words
