-- When the calls say yes, and what cannot make them; what carries the proofs of the code; the worked examples.
pub mod Readings
pub mod Examples
