-- Laws of bytes that an LF follows, of the pieces, and of what they add up to, byte by byte.
pub mod Blanks
pub mod Followed
pub mod Pieces
pub mod Plain
pub mod InOne
pub mod Stop
pub mod Folding
