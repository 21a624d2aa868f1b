-- A list written over another.
pub mod Onto
