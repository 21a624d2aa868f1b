-- What the answers of this crate are, by the definitions of rules.
pub mod Joined
pub mod Value
