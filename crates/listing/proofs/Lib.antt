-- Laws of the listing: the turns of a loop that lists, the single steps, the answers.
pub mod Turn
pub mod Answers
pub mod Steps
