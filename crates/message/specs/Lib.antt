-- The statements of the calls on a whole message, by the original's files: decode.rs, mod.rs.
pub mod Decode
pub mod Message
