-- The theorems about the mailbox.
pub mod Tests
pub mod Accepts
pub mod Derives
pub mod Unique
pub mod Refusals
pub mod Ninth
pub mod Answers
pub mod Examples
