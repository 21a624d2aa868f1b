-- Laws of lines, of blank parts and of equal byte strings, for those who call this crate.
pub mod Lines
pub mod ByLines
pub mod Blanks
pub mod Equal
pub mod Words
pub mod Endings
