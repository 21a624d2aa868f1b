-- What the statements of the calls in either reading add to those of the first, and the worked examples of K7.
pub mod Reading
pub mod Examples
