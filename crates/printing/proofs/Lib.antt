-- What carries the proof of `listed`.
pub mod Enough
