-- The theorems about the definitions of specs/, and what carries the proofs of the code.
pub mod Numbers
pub mod Bundle
pub mod Judged
pub mod Answers
