-- Laws of the kinds of lines.
pub mod Counted
pub mod Verdicts
