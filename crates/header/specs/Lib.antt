-- The words that the contracts of this crate add to those of commit.
pub mod Front
