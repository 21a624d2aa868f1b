-- What the parts of a summary answer, as document 01 says it.
pub mod Summarised
pub mod Started
pub mod Again
