-- A record as numbers, and a table of them.
pub mod Flat
pub mod Seven
pub mod Examples
