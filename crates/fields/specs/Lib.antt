-- What the code answers of a walk's trailers, step by step: Sole of a raw value, Tally of the fields' trailers, Note of a field.
pub mod Sole
pub mod Tally
pub mod Note
