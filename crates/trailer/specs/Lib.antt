-- What the answers of this crate are, by the definitions of rules.
pub mod Line
pub mod Walk
