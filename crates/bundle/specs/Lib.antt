-- Document 02, K11: the bundle, and the answers of the calls that read it.
pub mod Bundle
pub mod Answers
