-- The worked examples of document 02, K11.
pub mod Examples
