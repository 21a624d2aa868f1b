-- Laws of runs without an LF, and of LFs in a word.
pub mod Runs
pub mod Words
