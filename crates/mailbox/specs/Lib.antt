-- The mailbox of document 02, K14: its grammar, the place of a refusal, the answer; Reader is the answer computed.
pub mod Grammar
pub mod Reader
pub mod Place
pub mod Answers
pub mod Examples
