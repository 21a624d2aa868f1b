-- What is listed and what is left behind, and what the parts of a listing answer.
pub mod Openings
pub mod Planning
pub mod Scopes
