-- What `read_trailer` answers, by the definitions of rules.
pub mod Read
