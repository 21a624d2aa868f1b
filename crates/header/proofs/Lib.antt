-- Laws of bytes and names, for those who call this crate.
pub mod Laws
