-- Document 02, K11: the report of a bundle, what is said of it, and the worked examples.
pub mod Report
pub mod Answers
