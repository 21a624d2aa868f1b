-- Document 02, K11: what `write_bundle` answers and writes; Pairs has what its parts speak of.
pub mod Writing
pub mod Answers
pub mod Pairs
