-- What a call that reads a trailer's record learns.
pub mod Read
