-- A commit object's content: its grammar, where it is refused, its reader, the answers of the calls, and the examples.
pub mod Grammar
pub mod Place
pub mod Reader
pub mod Answers
pub mod Examples
