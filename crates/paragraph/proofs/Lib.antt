-- Laws of the backward scan, of the blank lines below it, and of how the last non-blank line ended.
pub mod Scanned
pub mod Blanks
pub mod Upward
pub mod Ends
