-- The closing note: document 02, K10. Contents has what the three fields may hold, Closing the note, the refusals and "may erase",
-- Judged how a content is judged with no buffer, Answers what is said of them; and the worked examples.
pub mod Contents
pub mod Closing
pub mod Judged
pub mod Answers
