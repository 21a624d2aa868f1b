-- Laws of the title, line by line and run by run.
pub mod ByLines
pub mod Runs
