pub mod EachFacts
pub mod Forms
pub mod LineFacts
