-- What carries the proofs of the code, and that the answer of `add_trailer` is known by its number and values.
pub mod Tests
pub mod Upward
pub mod Writing
pub mod Answers
pub mod Examples
