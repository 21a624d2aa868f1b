-- The words that the contracts of this crate add to those of rules.
pub mod Followed
pub mod Spaces
