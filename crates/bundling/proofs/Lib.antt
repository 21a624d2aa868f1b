-- What carries the proofs of the code, and that the answer of `write_bundle` is known by its number and values.
pub mod Writing
pub mod Answers
