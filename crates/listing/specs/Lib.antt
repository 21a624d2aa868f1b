-- Document 02, K1: the listing of all trailers, its refusals, and how it is made.
pub mod Listing
pub mod Answers
pub mod Turns
