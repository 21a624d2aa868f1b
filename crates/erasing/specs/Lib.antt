-- The worked examples of K10.
pub mod Examples
