-- Document 02, K7: the divider, the message cut at it, and what a call answers in either reading.
pub mod Divider
pub mod Readings
