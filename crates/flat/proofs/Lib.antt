-- The worked examples hold.
pub mod Examples
