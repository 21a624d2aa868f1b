-- The calls that take a kind, and those that take a reading.
pub mod ByKind
pub mod ByReading
