-- Laws of a list written over another.
pub mod Onto
