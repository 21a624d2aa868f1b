-- What carries the proofs of the code, the listing's length, and that the answer of `listing_into` is known by its number and values.
pub mod Decimal
pub mod Lines
pub mod Writing
pub mod Whole
pub mod Answers
pub mod Examples
