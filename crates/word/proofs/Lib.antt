-- Laws of numbers that are made of bytes, and of the bytes that pass.
pub mod Lanes
pub mod Passing
