-- The words that the contracts of this crate add to those of rules, and examples of trimming.
pub mod White
pub mod Examples
