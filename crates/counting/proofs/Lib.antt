-- The theorems about the report, what carries the proofs of the code, and that its answer is known by its number and values.
pub mod Figures
pub mod Turns
pub mod Answers
