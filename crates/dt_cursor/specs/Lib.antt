pub mod Asked
pub mod CursorLaws
