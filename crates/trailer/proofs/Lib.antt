-- Laws of trailer lines and of the walk's steps, for this crate and those who call it.
pub mod Runs
pub mod Folds
pub mod Tokens
pub mod Parsed
pub mod AtStart
pub mod Steps
