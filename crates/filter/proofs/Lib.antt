pub mod Lowered
pub mod Tokens
pub mod Steps
