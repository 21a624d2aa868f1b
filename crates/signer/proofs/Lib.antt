-- The laws that the proofs of the functions cite, and that their contracts decide.
pub mod Laws
pub mod Decides
