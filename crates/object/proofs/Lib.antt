-- Laws of a line's places, and of the answers.
pub mod Lines
