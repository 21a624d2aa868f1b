-- The laws that carry the proofs of the code: Std, what std's tests are; Number of digits read one after the other; Tests of a content.
pub mod Std
pub mod Number
pub mod Tests
