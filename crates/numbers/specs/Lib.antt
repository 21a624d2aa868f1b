-- How answers cross to C and Rust.
pub mod Numbers
