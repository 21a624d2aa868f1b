-- The words that the contracts of this crate add to those of commit and header.
pub mod Scan
