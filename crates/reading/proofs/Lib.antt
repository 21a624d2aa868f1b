-- The examples of K7, and what demands 2 and 3 say of the message so cut.
pub mod Examples
pub mod Cut
