-- What is read back of a message with one trailer more, and what carries it; ForCode has what the code rests on.
pub mod Titles
pub mod Values
pub mod Alike
pub mod Longer
pub mod Bodies
pub mod Written
pub mod ReadBack
pub mod TitleKept
pub mod Asked
pub mod ForCode
