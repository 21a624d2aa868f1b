-- The laws that carry the proofs of the code: Kept of the sole line, Going of what is found in a walk, Seen of a field, Verdicts of the
-- first refusal.
pub mod Kept
pub mod Going
pub mod Seen
pub mod Verdicts
