-- The kinds of the lines of the last paragraph, and the verdict on it.
pub mod Kinds
pub mod Verdicts
