-- The theorems about the closing note. Contents: what a good content is. Exactly: one trailer alone. Closing: exactly one answer, and
-- may erase. Judged: how a content is judged without a buffer.
pub mod Contents
pub mod Exactly
pub mod Closing
pub mod Judged
pub mod Place
pub mod Above
pub mod Answers
