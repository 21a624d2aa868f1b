-- What is read of the list of recorded answers.
pub mod Reading
