-- A slice that is lent again, and a table of records.
pub mod Again
pub mod Entries
