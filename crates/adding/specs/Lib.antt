-- Document 02, K3: what `add_trailer` answers and writes.
pub mod Answers
pub mod Examples
