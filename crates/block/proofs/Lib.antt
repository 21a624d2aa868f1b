-- Laws of the block step.
pub mod Step
